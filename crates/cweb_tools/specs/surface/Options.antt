-- The result of parsing a command line, and the model of `ctangle`'s options.
use Rattle.std.specs.Prelude.{option_map, string_bytes, ◌≡◌, ◌↔◌, ◌⊎◌, Option, None, Some, Result, IfErr, IfOk, IsErrOf}
use Rattle.cweb_tools.specs.declared.options.Options.{Options}
use Rattle.cweb_tools.specs.CommandLine.{OptionsModel}
use Rattle.cweb_lines.specs.declared.stop.Stop.{Stop}
use Rattle.cweb_lines.specs.declared.stop.Stop.TheVariants.{Memory, Usage}

-- The model of `ctangle`'s parsed options.
abbrev pub options_of : Options → OptionsModel
options_of options = record {
  shown = record {
    banner = options.banner;
    progress = options.progress;
    closing = options.closing;
    statistics = options.statistics;
  };
  names = record {
    merge = record {
      web = string_bytes options.web;
      second = option_map (λ name. string_bytes name) options.second;
      change = option_map (λ name. string_bytes name) options.change;
    };
    main = string_bytes options.main;
  };
}

-- The arguments have this model. Only if they have none, this is a usage fault.
pub record Parses {A M : Type 0} (args : Option M) (model : A → M) (result : Result A Stop) : Type 0 where
  pub ok : IfOk result (λ read. args ≡ Some (model read))
  pub usage : IsErrOf result Usage ↔ (args ≡ None)
  pub stops : IfErr result (λ stop. (stop ≡ Usage) ⊎ (stop ≡ Memory))
