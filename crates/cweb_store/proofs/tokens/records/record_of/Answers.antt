use Rattle.cweb_store.proofs.Common.{append-nil, ◌++◌, common_steps, ◌≡◌, ◌<◌, ℕ, List, [], ◌∷◌, arith, filter, length, InternsToken, StringIsWithin, token_of_record, has_string, string_at, Place, Record}
use Rattle.cweb_store.proofs.StringListLemmas.{get-string}
use Rattle.cweb_store.proofs.InterningLemmas.{adds}
use Rattle.cweb_store.specs.inner.StringTables.{StringTableModel, AddsString, InternsWord}
use Rattle.cweb_store.specs.surface.Tokens.{with_word, other_bytes, with_word_of}
use Rattle.std.proofs.lemmas.Option.{slice_get_within}
use Rattle.cweb_store.specs.declared.tokens.records.Record.TheVariants.{Mark}
use Rattle.cweb_store.specs.Parts as spec
use Rattle.cweb_store.proofs.tokens.records.record_of.Goals as goal

-- A stored string, and the record with its index.
kept-packs : {old new : StringTableModel} {places : List Place} {string : List ℕ} {number : ℕ} (token : spec.Token)
    (item : Record)
    → AddsString old string number new → (number < length new.strings → StringIsWithin (length new.strings) item)
    → (string_at new.strings number ≡ string → token_of_record new.strings places item ≡ token)
    → with_word_of old.words token ≡ old.words
    → other_bytes token ≡ length string → length (filter has_string (token ∷ [])) ≡ 1
    → InternsToken old token places item new
kept-packs {new} {string} {number} token item keeps within stored no_word bytes one =
    grind (arith, slice_get_within, get-string)

-- The record of an interned string.
word-packs : {old new : StringTableModel} {places : List Place} {word : List ℕ} {number : ℕ} (token : spec.Token)
    (item : Record)
    → InternsWord old word number new → (number < length new.strings → StringIsWithin (length new.strings) item)
    → (string_at new.strings number ≡ word → token_of_record new.strings places item ≡ token)
    → with_word_of old.words token ≡ with_word old.words word
    → other_bytes token ≡ 0 → length (filter has_string (token ∷ [])) ≡ 1
    → InternsToken old token places item new
word-packs {old} {new} {word} {number} token item keeps within stored is_word none one =
    grind (arith, slice_get_within, get-string, adds old word number new keeps)

pub returns-in_ok-intern_word-in-Word-clause-packs : goal.returns-in_ok-intern_word-in-Word-clause-packs
returns-in_ok-intern_word-in-Word-clause-packs c = grind (arith, word-packs)

pub returns-in_ok-intern_word-in-Number-clause-packs : goal.returns-in_ok-intern_word-in-Number-clause-packs
returns-in_ok-intern_word-in-Number-clause-packs c = grind (arith, word-packs)

pub returns-in_ok-intern_punctuator-in-Punct-clause-packs : goal.returns-in_ok-intern_punctuator-in-Punct-clause-packs
returns-in_ok-intern_punctuator-in-Punct-clause-packs c = grind (arith, word-packs)

pub returns-in_ok-add_string-in-Literal-clause-packs : goal.returns-in_ok-add_string-in-Literal-clause-packs
returns-in_ok-add_string-in-Literal-clause-packs c = grind (arith, kept-packs)

pub returns-in_ok-add_string-in-Verbatim-clause-packs : goal.returns-in_ok-add_string-in-Verbatim-clause-packs
returns-in_ok-add_string-in-Verbatim-clause-packs c = grind (arith, kept-packs)

-- The record of a Mark.
place-packs : {kept : StringTableModel} (places : List Place) {place : Place} {number : ℕ} (item : Record)
    → number ≡ length places → item ≡ Mark number → InternsToken kept (spec.Mark place) (places ++ place ∷ []) item kept
place-packs {kept} places {place} {number} item last is = grind (arith, append-nil, common_steps)

pub returns-in_ok-reserve-in-Mark-clause-packs : goal.returns-in_ok-reserve-in-Mark-clause-packs
returns-in_ok-reserve-in-Mark-clause-packs c = grind (arith, place-packs)
