-- Imports that the proofs of this crate share.
pub use Rattle.std.proofs.Common.{◌≡◌, ℕ, zero, suc, ◌+◌, ◌≤◌, ◌<◌, Bool, true, false, cond, not, ◌||◌, List, [], ◌∷◌}
pub use Rattle.std.proofs.Common.{◌++◌, Some, None, Option, length, refl, ap, arith, length-append, map, take, drop}
pub use Rattle.std.proofs.Common.{◌∙◌, append-nil, ◌&&◌, sym, append_assoc, subst, ◌-◌, get_or, length-drop, inl, inr}
pub use Rattle.std.proofs.Common.{eq-eqb, flat_map, rules, ◌↔◌, reverse, ◌*◌, ◌==◌, ltb-true, ltb-false, ◌⊎◌, set, ◌/◌}
pub use Rattle.std.proofs.Common.{◌^◌}
pub use Rattle.std.proofs.Math.Bool.{or-false, not-not, or_comm}
pub use Rattle.std.proofs.Math.Nat.{suc-mul, mul-le-mul_right}
pub use Rattle.std.proofs.Math.Seq.{drop-append_seam, take-append_seam, take-length, length-take-le}
pub use Rattle.std.proofs.lemmas.Bool.{eqb-true}
pub use Rattle.std.proofs.lemmas.Bool.Decides.{nat_tests}
pub use Rattle.std.proofs.lemmas.Grind.{flat_map-append, common_steps, same_number_lists}
pub use Rattle.std.proofs.lemmas.List.{length-map, take-append-drop, map-append, take_all, drop_all, get_or-replicate}
pub use Rattle.std.proofs.lemmas.List.{drop-drop, take-map, drop-append-le, take-append-le, length-set}
pub use Rattle.std.proofs.lemmas.List.Elements.{All-from_recursion, filter-append}
pub use Rattle.std.proofs.lemmas.List.Folds.{list_any-append}
pub use Rattle.std.proofs.lemmas.List.Sums.{length-filter, count_by-le-length}
pub use Rattle.std.proofs.lemmas.Map.Keys.{any_passes_from_place}
pub use Rattle.std.proofs.lemmas.Map.Text.{is_eq-slice_cmp}
pub use Rattle.std.proofs.lemmas.Nat.{le_bytes_4, le_bytes_8}
pub use Rattle.std.proofs.lemmas.Option.{slice_get-map, get_or_from_slice_get, slice_get-get_or, slice_get_within}
pub use Rattle.std.proofs.lemmas.Slice.Eq.{bytes_eq-Decides}
pub use Rattle.std.specs.BTreeMap.{insert_entry, is_at, keys}
pub use Rattle.std.specs.Cmp.Lexicographic.{slice_cmp, bytes_decides, nat_list_cmp_total}
pub use Rattle.std.specs.Int.{w32, w64, from_le_bytes}
pub use Rattle.std.specs.List.{AllByRecursion, list_any, starts_with, position_or_len}
pub use Rattle.std.specs.Map.{lookup, keys_of}
pub use Rattle.std.specs.Ordering.{nat_cmp, ordering_then, match_ordering, is_eq, is_le, ordering_reverse}
pub use Rattle.std.specs.Prelude.{Ok, Err, IfSome, All, bytes_eq, if◌then◌else◌, nat_eq, filter, IsSome, IsNone}
pub use Rattle.std.specs.Prelude.{option_map, option_to_list, slice_get, option_and_then, fold, filter_map, codes}
pub use Rattle.std.specs.Prelude.{IsTrue, slice_range, nat_lt, vec_capacity, unwrap_or, slice_index_or, Vec, Result}
pub use Rattle.std.specs.Prelude.{IfOk, OnErr}
pub use Rattle.std.specs.declared.alloc.Global.{Global}
pub use Rattle.std.specs.declared.cmp.Ordering.TheVariants.{Less, Equal, Greater}
pub use Rattle.cweb_files.specs.declared.place.Place.{Place}
pub use Rattle.cweb_rules.specs.Edges.{first_is, is_operator, last_is}
pub use Rattle.cweb_store.proofs.Terms.{beginning_from, with_some, names_from}
pub use Rattle.cweb_store.specs.Calls.{PartsSoFar, part_with_token, Contents, empty, Stored, finished, stored}
pub use Rattle.cweb_store.specs.Calls.{replacement, Replacement}
pub use Rattle.cweb_store.specs.Faults.{fault_of_name, unresolved_faults, faults_where, faults, is_missing, is_use}
pub use Rattle.cweb_store.specs.Faults.{is_used, has_part, unresolved_fault}
pub use Rattle.cweb_store.specs.Names.{is_prefix_of_another, Occurrence, Name, Resolution, id, spellings}
pub use Rattle.cweb_store.specs.Names.{with_full_name, with_occurrence_name, names, the_one, resolved_among}
pub use Rattle.cweb_store.specs.Names.{resolutions_from, resolutions, resolved_at, with_file, files, is_id, beginning}
pub use Rattle.cweb_store.specs.Names.{with_id}
pub use Rattle.cweb_store.specs.Parts.{before_last, without_last, without_blank, without_layout, at_close}
pub use Rattle.cweb_store.specs.Parts.{protected_count, is_layout, is_newline, is_blank, without_last_after, Part}
pub use Rattle.cweb_store.specs.Parts.{Token, all_tokens, is_macro, joined_where, is_c_part, is_some_id, is_of, Word}
pub use Rattle.cweb_store.specs.Parts.{Punct, Blank, Newline, Mark, is_unnamed, has_defs_code, is_defs}
pub use Rattle.cweb_store.specs.declared.call.Answered.{Answered}
pub use Rattle.cweb_store.specs.declared.edges.Edge.{Edge}
pub use Rattle.cweb_store.specs.declared.found.Found.{Found}
pub use Rattle.cweb_store.specs.declared.found.Found.TheVariants.{Nothing, One, Several}
pub use Rattle.cweb_store.specs.declared.name.How.{How}
pub use Rattle.cweb_store.specs.declared.name.How.TheVariants.{Full, Prefix}
pub use Rattle.cweb_store.specs.declared.name.NameFault.{NameFault}
pub use Rattle.cweb_store.specs.declared.name.NameId.{NameId}
pub use Rattle.cweb_store.specs.declared.name.NameKind.{NameKind}
pub use Rattle.cweb_store.specs.declared.name.NameKind.TheVariants.{NeverFull, PrefixOfAnother, NotPresent, Ambiguous}
pub use Rattle.cweb_store.specs.declared.name.NameRef.{NameRef}
pub use Rattle.cweb_store.specs.declared.parts.Open.{Open}
pub use Rattle.cweb_store.specs.declared.parts.PartKind.{PartKind}
pub use Rattle.cweb_store.specs.declared.parts.PartKind.TheVariants.{Unnamed, Named, Macro}
pub use Rattle.cweb_store.specs.declared.parts.PartRange.{PartRange}
pub use Rattle.cweb_store.specs.declared.parts.links.Links.{Links}
pub use Rattle.cweb_store.specs.declared.tokens.records.Record.{Record}
pub use Rattle.cweb_store.specs.declared.words.key.Key.{Key}
pub use Rattle.cweb_store.specs.inner.DirectBytes.{direct_bytes}
pub use Rattle.cweb_store.specs.inner.Known.{files_from, occurrences_at, found_of, is_several}
pub use Rattle.cweb_store.specs.inner.Known.{NameEntry, compare_bytes, entry_has_prefix, IsNameMap, id_of_spelling}
pub use Rattle.cweb_store.specs.inner.Known.{next_begins, any_next, ids_with_prefix, early, earlies_from, by_found}
pub use Rattle.cweb_store.specs.inner.Known.{name_at, names_at, AreKnown, NamesSoFar}
pub use Rattle.cweb_store.specs.inner.Known.{IsOccurrenceTable, resolve, resolve_all}
pub use Rattle.cweb_store.specs.inner.PartRanges.{with_closed_part, with_dropped_layout, with_opened_part}
pub use Rattle.cweb_store.specs.inner.PartRanges.{with_pushed_token, ranges_from, IsWhole, closed_in, ArePartRanges}
pub use Rattle.cweb_store.specs.inner.PartRanges.{parts_in, has_string, is_trailing}
pub use Rattle.cweb_store.specs.inner.Records.{IsNextNumber, is_name_use, AreRecords, InternsToken, StringIsWithin}
pub use Rattle.cweb_store.specs.inner.Records.{token_of_record, tokens_of, token_numbers, IsTokenIndex}
pub use Rattle.cweb_store.specs.inner.Stored.{AreAnswers, HoldsAtMost, AreWithin, flag_of, has_head, followed}
pub use Rattle.cweb_store.specs.inner.Stored.{AreLinked, replacement_in, replacements_at, AreLast}
pub use Rattle.cweb_store.specs.inner.Stored.{last_from, is_wanted, wanted_in}
pub use Rattle.cweb_store.specs.inner.StringLists.{is_known_edge, string_at, AreStoredEdges, IsStoredEdge, is_high}
pub use Rattle.cweb_store.specs.surface.Tokens.{is_numeric, punctuator_edge, punctuator_edge_by}
pub use Rattle.cweb_store.specs.inner.StringLists.{strings_from}
pub use Rattle.cweb_store.specs.inner.StringLists.{AreEnds, string_start, IsFromStart, text_bytes, IsStringList}
pub use Rattle.cweb_store.specs.inner.StringTables.{IsByteId, AreByteIds, IsStringTable, StringTableModel, InternsWord}
pub use Rattle.cweb_store.specs.inner.StringTables.{has_word, table_model, AddsString, TakesString, TakesWord}
pub use Rattle.cweb_store.specs.inner.Words.{AreBytes, IsLink, AreChains, short_key, middle_key, long_key, hashed_key}
pub use Rattle.cweb_store.specs.inner.Words.{home_bucket_of, word_string, have_string, DescribesString, DescribeStrings}
pub use Rattle.cweb_store.specs.inner.Words.{FindsString, PushesWord, compare_vecs, Entries, entry_word, IsInserted}
pub use Rattle.cweb_store.specs.inner.Words.{AreMapped, AreInterned}
pub use Rattle.cweb_store.specs.laws.Laws.{call_model, accepted_calls, AcceptsCall, AcceptsCalls, Call, Occurs, Opens}
pub use Rattle.cweb_store.specs.laws.Laws.{Pushes, Drops, Closes, Transliterates, after_call, contents}
pub use Rattle.cweb_store.specs.laws.Laws.{defines_with_prefix, AbbreviationsStay, EarlierNamesDecide}
pub use Rattle.cweb_store.specs.laws.Laws.{FullNamesResolveToThemselves, OccurrencesAreThoseOfCalls, occurrence_of_call}
pub use Rattle.cweb_store.specs.laws.Laws.{NamesAreDistinct, AbbreviationsBeginTheirNames, OneFaultForNoName}
pub use Rattle.cweb_store.specs.laws.Laws.{JoiningConcatenates, IsLeft, OnlyLayoutIsDropped, left_of_macro}
pub use Rattle.cweb_store.specs.laws.Laws.{token_of_call, IsLeftOfTokens, TokensAreThosePushed}
pub use Rattle.cweb_store.specs.laws.Laws.{Distinct}
pub use Rattle.cweb_store.specs.surface.Tokens.{occurrence_of, too_many, occurrence_text, BuilderModel}
pub use Rattle.cweb_store.specs.surface.Tokens.{total, with_word}
pub use Rattle.cweb_store.specs.surface.Tokens.{all_parts, part_count, token_count, numbers_where, tokens_at}
pub use Rattle.cweb_store.specs.surface.Tokens.{replacement_of, uninterned_store_bytes, interned_store_bytes}
pub use Rattle.cweb_store.specs.surface.Tokens.{replacement_bytes, stored_strings, token_model, token_strings}
pub use Rattle.cweb_store.specs.surface.Tokens.{interned_token_bytes, AreSpansOf, AreInOneList}
