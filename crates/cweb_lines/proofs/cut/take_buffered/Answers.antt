use Rattle.cweb_lines.proofs.Common.{◌≡◌, ◌++◌, [], ℕ, List, take, drop, ◌∙◌, ap, subst, take-append-drop, Err, append-nil, err_from_is_err_and, slice_range, IsLongerThan, TooLong, LINE_LENGTH, arith}
use Rattle.cweb_lines.proofs.Newlines.{longer, after_newline}
use Rattle.cweb_lines.proofs.cut.take_buffered.Goals as goal

pub returns-in_err-extend-in-Some-clause-too_long : goal.returns-in_err-extend-in-Some-clause-too_long
returns-in_err-extend-in-Some-clause-too_long g c = λ none is.
    let p = err_from_is_err_and c.from_residual.result c.from_residual.ensures.1 in
    let fault : c.in_err-extend-in-Some.field-0.0 ≡ TooLong = cc (p.1, p.2, is) in
    let more = c.in_err-extend-in-Some.ensures.too_long (ap Err fault) in
    let bytes = slice_range c.deref.result.now c.args.source.now.start c.args.source.now.end in
    subst (λ (l : List ℕ). IsLongerThan LINE_LENGTH (c.args.line.now.items ++ l)) (take-append-drop c.in-Some.at bytes
    ∙ ap (λ (l : List ℕ). slice_range l c.args.source.now.start c.args.source.now.end) c.deref.ensures.value)
    (longer LINE_LENGTH c.args.line.now.items
    (take c.in-Some.at bytes) (drop c.in-Some.at bytes) none c.in-Some.ensures.before more)

pub returns-in_err-extend-in-None-clause-too_long : goal.returns-in_err-extend-in-None-clause-too_long
returns-in_err-extend-in-None-clause-too_long g c = λ none is.
    let p =
    err_from_is_err_and c.from_residual-in_err-extend-in-None.result c.from_residual-in_err-extend-in-None.ensures.1 in
    let fault : c.in_err-extend-in-None.field-0.0 ≡ TooLong = cc (p.1, p.2, is) in
    let more = c.in_err-extend-in-None.ensures.too_long (ap Err fault) in
    let bytes = slice_range c.deref.result.now c.args.source.now.start c.args.source.now.end in
    subst (λ (l : List ℕ). IsLongerThan LINE_LENGTH (c.args.line.now.items ++ l)) (append-nil bytes
    ∙ ap (λ (l : List ℕ). slice_range l c.args.source.now.start c.args.source.now.end) c.deref.ensures.value)
    (longer LINE_LENGTH c.args.line.now.items bytes [] none c.in-None.ensures more)

pub returns-in_ok-extend-in-Some-clause-taken : goal.returns-in_ok-extend-in-Some-clause-taken
returns-in_ok-extend-in-Some-clause-taken g c = grind (arith, after_newline)
