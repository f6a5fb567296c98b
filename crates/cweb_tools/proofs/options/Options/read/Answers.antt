use Rattle.cweb_tools.proofs.Common.{sym, ◌∙◌, ap, subst, map, option_copied, Option, OptionsModel, options_of}
use Rattle.cweb_tools.specs.surface.Options.{Parses}
use Rattle.cweb_tools.proofs.RequestedOptions.{asks, copied_none}
use Rattle.cweb_tools.proofs.options.Options.read.Goals as goal

-- The file words, by index, give the options of all words.
pub returns : goal.returns
returns c = subst (λ (args : Option OptionsModel). Parses args options_of c.named.result)
    (sym (asks (map (λ word. word.now) c.args.words.now) c.in-Some.shown c.in-Some-other_word.web.now _ _
    (sym c.read.ensures ∙ c.in-Some.is) (sym c.other_word.ensures ∙ ap option_copied c.in-Some-other_word.is)
    c.other_word-3.ensures c.other_word-4.ensures (sym c.other_word-2.ensures
    ∙ copied_none _ (sym c.if-is_some.ensures)))) c.named.ensures
