-- A property of acts that holds of none, and is preserved by logging and writing, holds of the acts for a web.
use Rattle.cweb_tools.proofs.Common.{ℕ, Bool, true, false, List, [], ◌∷◌, ◌++◌, map, append-nil, File, LogItem, closing, no_text, starred, Shown, Act, reserves, says, writes, Numbers, closing_acts, outputs_acts, planned, planned_acts, starred_acts, when, arith}
use Rattle.cweb_tools.specs.Items.{counts, writing}

-- Any item may be logged.
abbrev pub Any : LogItem → Type 0
Any item = Unit {0}

module _ (Says : LogItem → Type 0) (P : List Act → Type 0)
    (says_on : (item : LogItem) (acts : List Act) → Says item → P acts → P (says item ∷ acts)) where
  pub when_on : (b : Bool) (item : LogItem) (acts : List Act) → Says item → P acts → P (when b item ++ acts)
  when_on true item acts said rest = says_on item acts said rest
  when_on false item acts said rest = rest

  pub said_on : (items : List LogItem) (acts : List Act) → ((item : LogItem) → Says item) → P acts
      → P (map says items ++ acts)
  said_on [] acts said rest = rest
  said_on (item ∷ items) acts said rest = says_on item _ (said item) (said_on items acts said rest)

  pub starred_on : (progress : Bool) (numbers : List ℕ) (acts : List Act)
      → ((ns : List ℕ) → Says (starred ns)) → P acts → P (starred_acts progress numbers ++ acts)
  starred_on progress [] acts said rest = rest
  starred_on progress (n ∷ numbers) acts said rest = when_on progress _ acts (said (n ∷ numbers)) rest

  pub outputs_on : (progress : Bool) (files : List File) (acts : List Act) → ((name : List ℕ) → Says (writing name))
      → ((name text : List ℕ) (acts : List Act) → P acts → P (writes name text ∷ acts))
      → P acts → P (outputs_acts progress files ++ acts)
  outputs_on progress [] acts said written rest = rest
  outputs_on true (file ∷ files) acts said written rest = grind (arith, outputs_on true files acts said written rest)
  outputs_on false (file ∷ files) acts said written rest = grind (arith, outputs_on false files acts said written rest)

  pub closing_on : (shown : Shown) (numbers : Numbers) (count : ℕ) (missing : Bool) → Says (counts numbers.sections
      numbers.names numbers.macros) → Says (closing count missing) → P [] → P (closing_acts shown numbers count missing)
  closing_on shown numbers count missing said last none = grind (arith, when_on, append-nil)

  -- The acts for a plan are its warning, if that is logged, and those that follow.
  pub warning_on : (shown : Shown) (numbers : Numbers) (count : ℕ) (files : List File) (missing : Bool) → Says no_text
      → P (reserves ∷ (outputs_acts shown.progress files ++ closing_acts shown numbers count missing))
      → P (planned_acts shown numbers count (planned files missing))
  warning_on shown numbers count files missing said rest = when_on _ _ _ said rest
