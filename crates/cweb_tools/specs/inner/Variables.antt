-- What is known of an environment and of the words that `wmerge` has parsed.
use Rattle.std.specs.Prelude.{ℕ, List, Option, option_map, string_bytes}
use Rattle.cweb_tools.specs.declared.words.MergeWords.{MergeWords}
use Rattle.cweb_tools.specs.CommandLine.{WebNames}

-- The arguments after the program's name, and the value of each variable that is set.
pub record Variables : Type 0 where
  pub args : List (List ℕ)
  pub value : List ℕ → Option (List ℕ)

-- The model of `wmerge`'s parsed words.
abbrev pub merge_word_names : MergeWords → WebNames
merge_word_names words = record {
  web = string_bytes words.web;
  second = option_map (λ name. string_bytes name) words.second;
  change = option_map (λ name. string_bytes name) words.change;
}
