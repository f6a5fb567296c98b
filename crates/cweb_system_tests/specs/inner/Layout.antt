-- What holds of paths and places, whatever the calls of a run change.
use Rattle.std.specs.Prelude.{ℕ, List, [], ◌∷◌, Option, Some, None, if◌then◌else◌, option_map, string_bytes}
use Rattle.std.specs.Option.{unwrap_or}
use Rattle.std.specs.Str.{bytes_eq}
use Rattle.cweb_system.specs.declared.node.Node.{Node}
use Rattle.cweb_system_tests.specs.declared.memory_folder.layout.Fact.{Fact}
use Rattle.cweb_system_tests.specs.declared.memory_folder.layout.Layout.{Layout}

-- The value of the first fact of a path.
abbrev pub value_of : {V : Type 0} → List (Fact V) → List ℕ → Option V
value_of [] path = None
value_of (fact ∷ facts) path = if bytes_eq (string_bytes fact.path) path then Some fact.value else value_of facts path

-- The place that a path names.
abbrev pub place_in : Layout → List ℕ → List ℕ
place_in layout path = unwrap_or (option_map string_bytes (value_of layout.spellings.items path)) path

-- The path that the link at a place leads to.
abbrev pub target_in : Layout → List ℕ → Option (List ℕ)
target_in layout place = option_map string_bytes (value_of layout.links.items place)

-- What a link leads to, or else what was found.
abbrev pub after_link : (List ℕ → Option Node) → Option Node → Option (List ℕ) → Option Node
after_link node (Some Node.Link) (Some place) = node place
after_link node found target = found

-- What is at a place, or where the link there leads to.
abbrev pub followed : Layout → (List ℕ → Option Node) → List ℕ → Option Node
followed layout node place = after_link node (node place) (option_map (place_in layout) (target_in layout place))
