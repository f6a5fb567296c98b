use Rattle.cweb_lines.proofs.Common.{Err, common_steps, rules, ◌<◌, ◌-◌, length, refl, arith, None, counters_of, Ok, Option, LineAt, same_error, files_up_to}
use Rattle.std.proofs.lemmas.List.{get_or_default, set-set}
use Rattle.cweb_lines.proofs.ReadersStayNamed.{names_set}
use Rattle.cweb_lines.proofs.SourceStacks.{keeps_stack, most_read, top_taken, top_closed, top_stops, stops_map, stays_below, numbers_below, numbers_set, deep-at}
use Rattle.cweb_lines.proofs.open_source.stack.take_top.Goals as goal

pub take_from-requires-clause-number : goal.take_from-requires-clause-number
take_from-requires-clause-number g c = grind (arith, most_read)

pub returns-in_err-at : goal.returns-in_err-at
returns-in_err-at g c =
    let stack = c.args.stack.now in
    let within : stack.depth - 1 < length stack.texts = omega arith in
    let slot = c.index-stack-top.result in
    let file = most_read files_up_to stack.texts (stack.depth - 1) slot within in
    let takes = c.in_err-at.ensures.takes in
    rw (same_error _ _ c.from_residual.ensures.1) (record {
      takes = record {
        reads = takes.reads;
        named = names_set {A = Option LineAt} (g.S.Shelf.model c.args.shelf.now)
            (g.S.Shelf.model c.take_from.new.shelf) (Err c.in_err-at.field-0.0) stack.texts _ slot within
            _ takes.named;
        order = keeps_stack stack _ _ c.take_from.new.slot _ refl
            (omega (arith, c.requires.numbers, takes.answers.counted.0)) takes.text.number
            (omega (arith, takes.text.file, file)) c.requires.deep (c.in_err-at.ensures.deep (stack.depth - 1)
            (deep-at 0 (stack.depth - 1) (stack.depth - 1) stack.texts slot (omega arith) within c.requires.deep)).0;
        answers = grind (arith, common_steps, file, takes.answers);
      };
      taken = λ seen is. tt;
      stops = grind (arith, stops_map, top_stops);
      needed = rw (get_or_default stack.texts (stack.depth - 1) None slot within) takes.needed;
      closes = record {
        depth = search rules;
        closed = λ is. absurd (cc);
        below = λ low above. stays_below stack.texts _ (stack.depth - 1) low c.take_from.new.slot (omega arith) refl;
        numbers = λ place below. numbers_set stack.texts _ (stack.depth - 1) place slot c.take_from.new.slot within refl
            takes.text.uncounted;
        deeper = tt;
      };
    })

pub returns-in_default : goal.returns-in_default
returns-in_default g c =
    let stack = c.args.stack.now in
    let within : stack.depth - 1 < length stack.texts = omega arith in
    let slot = c.index-stack-top.result in
    let closed = set-set stack.texts (stack.depth - 1) c.take_from.new.slot None in
    let takes = c.in_ok-at.ensures.takes in
    let counted = rw c.in_default.is at takes.answers.counted in
    record {
      takes = record {
        reads = takes.reads;
        named = rw closed (names_set {A = Option LineAt} (g.S.Shelf.model c.args.shelf.now)
            (g.S.Shelf.model c.take_from.new.shelf)
            (Ok c.in_ok-at.field-0) stack.texts _ slot within None
            (λ seen is names each. (tt, (takes.named seen is names each).1)));
        order = keeps_stack stack _ _ None _ closed (omega (arith, c.requires.numbers, counted.0)) (omega arith)
            (omega arith) c.requires.deep refl;
        answers = search rules;
      };
      taken = λ seen is low above rest. top_closed seen.left stack.texts slot c.take_from.new.slot
          stack.depth within (counters_of c.args.limits.now) (counters_of c.take_from.new.limits)
          c.take_from.new.line.items low above rest _ closed (rw c.in_default.is at (takes.taken seen is));
      stops = λ seen is. tt;
      needed = tt;
      closes = record {
        depth = search rules;
        closed = λ is. closed;
        below = λ low above. stays_below stack.texts _ (stack.depth - 1) low None (omega arith) closed;
        numbers = λ place below. numbers_below stack.texts _ (stack.depth - 1) place None below closed;
        deeper = search rules;
      };
    }

pub returns : goal.returns
returns g c =
    let stack = c.args.stack.now in
    let within : stack.depth - 1 < length stack.texts = omega arith in
    let slot = c.index-stack-top.result in
    let file = most_read files_up_to stack.texts (stack.depth - 1) slot within in
    let takes = c.in_ok-at.ensures.takes in
    let counted = rw c.in-Some.is at takes.answers.counted in
    let level = rw c.in-Some.is at takes.text.level in
    let deep = c.in_ok-at.ensures.deep (stack.depth - 1)
    (deep-at 0 (stack.depth - 1) (stack.depth - 1) stack.texts slot (omega arith) within c.requires.deep) in
    record {
      takes = record {
        reads = takes.reads;
        named = names_set {A = Option LineAt} (g.S.Shelf.model c.args.shelf.now)
            (g.S.Shelf.model c.take_from.new.shelf) (Ok c.in_ok-at.field-0) stack.texts _ slot within
            _ takes.named;
        order = keeps_stack stack _ _ c.take_from.new.slot _ refl (omega (arith, c.requires.numbers, counted))
            takes.text.number (omega (arith, takes.text.file, file)) c.requires.deep deep.0;
        answers = grind (arith, common_steps, file, takes.answers);
      };
      taken = λ seen is low above rest. top_taken seen.left stack.texts slot
          c.take_from.new.slot stack.depth within (counters_of c.args.limits.now) (counters_of c.take_from.new.limits)
          c.take_from.new.line.items low above rest c.in-Some.at level.0 level.1 takes.text.depth
          takes.text.may_match (rw c.in-Some.is at (takes.taken seen is));
      stops = λ seen is. tt;
      needed = tt;
      closes = record {
        depth = search rules;
        closed = λ is. absurd (cc);
        below = λ low above. stays_below stack.texts _ (stack.depth - 1) low c.take_from.new.slot (omega arith) refl;
        numbers = tt;
        deeper = let below = rw c.in-Some.is at deep.1 in omega (arith, below);
      };
    }
