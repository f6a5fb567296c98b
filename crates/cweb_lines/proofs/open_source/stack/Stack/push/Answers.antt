use Rattle.cweb_lines.proofs.Common.{◌<◌, ◌+◌, Some, length, refl, arith, set}
use Rattle.cweb_lines.proofs.SourceStacks.{pushed, stays_below, deep-set}
use Rattle.cweb_lines.proofs.open_source.stack.Stack.push.Goals as goal

pub returns-clause-pushes : goal.returns-clause-pushes
returns-clause-pushes g c =
    let within : c.args.self.now.depth < length c.args.self.now.texts = omega arith in
    let self = c.args.self.now in
    pushed self (record {
      texts = set self.texts self.depth (Some c.args.text);
      depth = self.depth + 1;
    }) c.args.text within refl refl

pub returns-clause-below : goal.returns-clause-below
returns-clause-below g c = grind (arith, stays_below)

pub returns-clause-deep : goal.returns-clause-deep
returns-clause-deep g c = grind (arith, deep-set)
