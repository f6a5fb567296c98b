use Rattle.cweb_lines.proofs.Common.{rules, Option, subst, Found, ShelfContents, optional_string_bytes, world_in}
use Rattle.cweb_lines.specs.inner.Finding.{FindsFile}
use Rattle.cweb_lines.proofs.Found.{found_nothing, found_either}
use Rattle.cweb_lines.proofs.files.find.find.Goals as goal

pub returns-in_default : goal.returns-in_default
returns-in_default g c = record {
  same = search rules;
  found = λ seen is. found_nothing (world_in seen.texts c.args.inputs.now) c.args.name.now c.in_default.ensures.cases.0;
  opened = search rules;
}

pub returns : goal.returns
returns g c =
    subst (λ (expected : ShelfContents g.row.S-R.Denot → Option Found). FindsFile (g.S.Shelf.model c.args.shelf.now)
    (g.S.Shelf.model c.fetch_either.new.shelf) expected c.fetch_either.result)
    (λ i seen. found_either seen.texts (optional_string_bytes c.args.inputs.now) c.args.name.now _ _ _
    c.in-Ok.ensures.cases.1 c.in-Ok.ensures.cases.0 c.in_ok-from_str.ensures.ok c.in_ok-second.ensures i)
    c.fetch_either.ensures
