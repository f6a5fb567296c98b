use Rattle.cweb_tools.proofs.Common.{refl, inl, arith}
use Rattle.cweb_tools.proofs.RequestedOptions.{no_words, too_many_words}
use Rattle.cweb_tools.proofs.words.MergeWords.read.Goals.{in_default-via-then-words-lt1, in_default-via-else-words-lt1+else-words-lt2+else-words-lt3}
use Rattle.cweb_tools.proofs.words.MergeWords.read.Goals as goal

pub returns-in_default : goal.returns-in_default
returns-in_default c = record {
  ok = tt;
  usage = (
    λ is. elim c.in_default.branch [
      | in_default-via-then-words-lt1 w ↦ no_words c.args.words.now (grind arith)
      | in_default-via-else-words-lt1+else-words-lt2+else-words-lt3 w ↦ too_many_words c.args.words.now (grind arith)
    ],
    λ none. refl,
  );
  stops = inl refl;
}
