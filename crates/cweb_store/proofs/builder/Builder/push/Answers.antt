use Rattle.cweb_store.proofs.Common.{◌≡◌, ◌<◌, ◌+◌, length, sym, ◌∙◌, ap, subst, arith, too_many, IsSome, token_count, token_model, BuilderModel}
use Rattle.cweb_store.proofs.PartRangeLemmas.{push-parts, push-are, tokens-whole}
use Rattle.cweb_store.proofs.builder.Builder.push.Goals as goal

pub push-requires : goal.push-requires
push-requires c =
    let s = c.self.inside in
    let count : token_count c.args.self.now.contents.parts ≡ length s.tokens.tokens =
    ap (λ (v : BuilderModel). token_count v.contents.parts) (sym c.self.view_is)
    ∙ ap length (tokens-whole s.tokens.tokens s.ranges.items s.current _ c.self.invariant) in
    record { few = omega (arith, count, c.requires.few) }

pub invariant_of-self-2 : goal.invariant_of-self-2
invariant_of-self-2 c =
    let s = c.self.inside in
    let count : token_count c.args.self.now.contents.parts ≡ length s.tokens.tokens =
    ap (λ (v : BuilderModel). token_count v.contents.parts) (sym c.self.view_is)
    ∙ ap length (tokens-whole s.tokens.tokens s.ranges.items s.current _ c.self.invariant) in
    let few : length s.tokens.tokens + 1 < too_many = omega (arith, count, c.requires.few) in
    let some = subst (λ (v : BuilderModel). IsSome v.contents.parts.current) (sym c.self.view_is) c.requires.open in
    rw c.in_ok-push.ensures.ok (push-are s.tokens.tokens
    (token_model c.args.token) s.ranges.items s.current _ few some c.self.invariant)

pub returns-clause-ok : goal.returns-clause-ok
returns-clause-ok c =
    let s = c.self.inside in
    let some = subst (λ (v : BuilderModel). IsSome v.contents.parts.current) (sym c.self.view_is) c.requires.open in
    rw (c.in_ok-push.ensures.ok, ← c.self.view_is)
    (cc (push-parts s.tokens.tokens (token_model c.args.token) s.ranges.items s.current _ some c.self.invariant))
