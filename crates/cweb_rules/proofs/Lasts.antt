-- A delimited item is within its source.
use Rattle.cweb_rules.proofs.Common.{◌≤◌, ℕ, List, length, codes, begins, at_line_end, reach, reach_size, Open, Item, Name, LineComment, Literal, IncludedName, RawLiteral, look_of, arith}
use Rattle.cweb_rules.specs.declared.items.Item.TheVariants.{ControlText, Comment}
use Rattle.cweb_rules.proofs.Sizes.{IsWithin, reach-size, begins-size, control-within, name-within, comment-within, literal-within, include-within, raw-within}

item-within : (item : Item) → IsWithin (look_of item)
item-within ControlText = control-within
item-within Name = name-within
item-within Comment = comment-within (begins (codes "*/")) 2 (begins-size (codes "*/"))
item-within LineComment = comment-within at_line_end 0 (λ t h. omega arith)
item-within (Literal quote) = literal-within quote
item-within IncludedName = include-within
item-within (RawLiteral sign) = raw-within sign.now

pub reach-fits : (item : Item) (t : List ℕ) → reach_size (reach (look_of item) Open t) ≤ length t
reach-fits item t = reach-size (look_of item) Open (item-within item) t
