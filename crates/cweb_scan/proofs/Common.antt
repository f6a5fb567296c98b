-- Imports that the proofs of this crate share.
pub use Rattle.std.proofs.Common.{◌≡◌, ◌≤◌, ◌<◌, ℕ, ◌+◌, ◌*◌, Bool, List, [], ◌∷◌, ◌++◌, length, Option, None, Some}
pub use Rattle.std.proofs.Common.{refl, ap, sym, ◌∙◌, subst, arith, append_assoc, length-append, zero, suc, ◌-◌, take}
pub use Rattle.std.proofs.Common.{map, true, false, ◌==◌, not, drop, get_or, ◌&&◌, ◌||◌, take-append-drop, cond, ◌/◌}
pub use Rattle.std.proofs.Common.{◌%◌, rules}
pub use Rattle.std.proofs.Math.Bool.{and-true, and-false}
pub use Rattle.std.proofs.Math.Seq.{take-append-add, drop-append-add, take-append_seam, drop-append_seam, drop-nil}
pub use Rattle.std.proofs.Math.Seq.{drop-length}
pub use Rattle.std.proofs.lemmas.Bool.{eqb-true, ne_eqb, ltb-true, lt-ltb, not-true, and_parts, and_from}
pub use Rattle.std.proofs.lemmas.Bool.Decides.{nat_tests}
pub use Rattle.std.proofs.lemmas.Grind.{flat_map-append, fold-append, common_steps}
pub use Rattle.std.proofs.lemmas.List.{length-take-le, append-nil, length-drop, take-append-le, drop-append-le}
pub use Rattle.std.proofs.lemmas.List.{drop_all, length-map}
pub use Rattle.std.proofs.lemmas.List.Elements.{All-append, All-nil, All-push, All-cons, All-head, All-tail}
pub use Rattle.std.proofs.lemmas.List.Elements.{filter-append, All-weaker}
pub use Rattle.std.proofs.lemmas.Option.{same_Some}
pub use Rattle.std.specs.Fmt.{decimal, digit_glyph, digits_onto}
pub use Rattle.std.specs.List.{fold, prefix_len, flat_map, list_all, slice_get}
pub use Rattle.std.specs.Option.{is_some}
pub use Rattle.std.specs.Prelude.{IsTrue, option_to_list, if◌then◌else◌, codes, nat_lt, bytes_eq, option_map, All}
pub use Rattle.cweb_files.specs.declared.place.Place.{Place}
pub use Rattle.cweb_lines.specs.Lines.{Line}
pub use Rattle.cweb_lines.specs.declared.limits.TheConstants.{LINES, BYTES}
pub use Rattle.cweb_lines.specs.declared.open_source.OpenSource.{OpenSource}
pub use Rattle.cweb_lines.specs.declared.stop.Stop.{Stop}
pub use Rattle.cweb_lines.specs.declared.stop.Stop.TheVariants.{ReadFault, LineTooLong, TooMuchText, Memory}
pub use Rattle.cweb_lines.specs.surface.OpenedFileNames.{HasNoNewline, opened_file_names}
pub use Rattle.cweb_lines.specs.surface.OpenSources.{StopsFor}
pub use Rattle.cweb_lines.proofs.EmittedLinesAddUp.{yields_both}
pub use Rattle.cweb_lines.specs.Events.{emitted_lines, Event}
pub use Rattle.cweb_lines.specs.declared.merge_state.MergeState.{MergeState}
pub use Rattle.cweb_lines.specs.declared.merger.Merger.{Merger}
pub use Rattle.cweb_lines.specs.declared.merger.ahead.Ahead.{Ahead}
pub use Rattle.cweb_lines.specs.inner.Ahead.{LooksAhead, TakesLines, span_bytes, BorrowsLines}
pub use Rattle.cweb_lines.specs.inner.Passing.{lines_next, with_newlines, top_of}
pub use Rattle.cweb_lines.specs.surface.MergeProgress.{SoFar, so_far_of, KeepsReported, Stopped, events_to_come}
pub use Rattle.cweb_lines.specs.surface.MergerCalls.{EmitsLine, Grows, StopsThere, so_far, to_come, KnowsReaders}
pub use Rattle.cweb_lines.specs.surface.MergerCalls.{stop_in}
pub use Rattle.cweb_store.specs.Names.{squeezed_after, squeezed, is_abbreviation, Occurrence}
pub use Rattle.cweb_store.specs.declared.name.How.TheVariants.{Full, Prefix}
pub use Rattle.cweb_store.specs.declared.name.NameRef.{NameRef}
pub use Rattle.cweb_store.specs.surface.Tokens.{too_many}
pub use Rattle.cweb_rules.proofs.FirstBytes.{if_true}
pub use Rattle.cweb_rules.proofs.InLines.{IsLine-drop, IsLine-take}
pub use Rattle.cweb_rules.proofs.TokenSizes.{is_quoted-size}
pub use Rattle.cweb_rules.proofs.Looks.{comment-units}
pub use Rattle.cweb_rules.proofs.Reaches.{IsEnd, IsLocal}
pub use Rattle.cweb_rules.proofs.Seams.{begins_line, in_line, stops}
pub use Rattle.cweb_rules.proofs.UnitNewlines.{drop-sum, Tells, ends-append}
pub use Rattle.cweb_rules.proofs.Walks.{punctuator_fits}
pub use Rattle.cweb_rules.specs.Bytes.{begins, starts_section, is_blank, is_line_end, is_digit, is_word_byte}
pub use Rattle.cweb_rules.specs.Bytes.{at_line_end, is_white, listed, longest, number_len, starts_number}
pub use Rattle.cweb_rules.specs.Edges.{first_is}
pub use Rattle.cweb_rules.specs.Codes.{in_tex, in_macro, in_c}
pub use Rattle.cweb_rules.specs.Items.{reach_size, Reach, body, with_unit, reach_in, reach, unescaped, look_in_raw}
pub use Rattle.cweb_rules.specs.Items.{look_in_literal, look_in_comment, unit_bytes, look_in_name, look_in_control}
pub use Rattle.cweb_rules.specs.Matches.{match_in, code_match, effect_match, section_match, head_match_of, head_match}
pub use Rattle.cweb_rules.specs.Matches.{c_match, found_letter_match, tex_match, opener_after}
pub use Rattle.cweb_rules.specs.Literals.{raw_prefix, delimiter}
pub use Rattle.cweb_rules.specs.Matches.{comment_match, line_comment_match, raw_match, literal_match}
pub use Rattle.cweb_rules.specs.Literals.{literal_prefix}
pub use Rattle.cweb_rules.specs.Matches.{quoted_match, starts_include}
pub use Rattle.cweb_rules.specs.Literals.{quote_of, starts_raw, starts_literal}
pub use Rattle.cweb_rules.specs.Matches.{include_match, name_match, Lexeme, Skipped, rule_match, Blanks, RuleMatch}
pub use Rattle.cweb_rules.specs.Matches.{Kind, Section, Code, Letter, ControlText, Constant, LineEnd, Comment, Quoted}
pub use Rattle.cweb_rules.specs.Matches.{Defined, Identifier, Numeral, Punctuator}
pub use Rattle.cweb_rules.specs.declared.constants.Transliteration.{Transliteration}
pub use Rattle.cweb_rules.specs.declared.context.Context.{Context}
pub use Rattle.cweb_rules.specs.declared.context.Context.TheVariants.{Limbo, TeX, Definition, Macro, CText}
pub use Rattle.cweb_rules.specs.declared.effect.Effect.{Effect}
pub use Rattle.cweb_rules.specs.declared.effect.Effect.TheVariants.{Define, Format, Program, Named, InsertDefs, Joins}
pub use Rattle.cweb_rules.specs.declared.effect.Effect.TheVariants.{EmitAt, Faulty}
pub use Rattle.cweb_rules.specs.declared.end.End.{End}
pub use Rattle.cweb_rules.specs.declared.end.End.TheVariants.{Closed, Cut, Nested, Open}
pub use Rattle.cweb_rules.specs.declared.fault.ScanFault.{ScanFault}
pub use Rattle.cweb_rules.specs.declared.fault.ScanKind.{ScanKind}
pub use Rattle.cweb_rules.specs.declared.fault.ScanKind.TheVariants.{NameDidNotEnd, NamesDoNotNest, CommentDidNotEnd}
pub use Rattle.cweb_rules.specs.declared.fault.ScanKind.TheVariants.{StringDidNotEnd, ControlTextDidNotEnd, MissingAt}
pub use Rattle.cweb_rules.specs.declared.fault.ScanKind.TheVariants.{DoubleAtInString, ReplacementTooLong}
pub use Rattle.cweb_rules.specs.declared.fault.ScanKind.TheVariants.{FaultyConstant, DoubleAtInLimbo, ImproperHexNumber}
pub use Rattle.cweb_rules.specs.declared.fault.ScanKind.TheVariants.{LetterOutsideLimbo, IgnoredInCText, DefsInMacro}
pub use Rattle.cweb_rules.specs.declared.fault.ScanKind.TheVariants.{DefinitionDropped}
pub use Rattle.cweb_rules.specs.declared.items.Reached.{Reached}
pub use Rattle.cweb_rules.specs.declared.look.Look.{Look}
pub use Rattle.cweb_rules.specs.declared.look.Look.TheVariants.{Goes, Ends}
pub use Rattle.cweb_rules.specs.declared.rule.Rule.{Rule}
pub use Rattle.cweb_rules.specs.inner.LineItems.{IsLine, opens_in, opens_code, opens_effect, c_opens, tex_opens}
pub use Rattle.cweb_rules.specs.inner.LineItems.{AtLineEnd, is_unclosed, reached, MovesOn, is_plain, is_raw_special}
pub use Rattle.cweb_rules.specs.inner.LineItems.{is_special}
pub use Rattle.cweb_rules.specs.Matches.{c_rule, c_match_by}
pub use Rattle.cweb_rules.specs.laws.Laws.{JoinsAll, IsToken, is_token, is_quiet, begins_as, owed_tokens, at_line_ends}
pub use Rattle.cweb_rules.specs.laws.Laws.{Pays}
pub use Rattle.cweb_store.specs.Calls.{finished, with_dropped, with_open, PartsSoFar, part_with_token, Replacement}
pub use Rattle.cweb_store.specs.Calls.{Contents}
pub use Rattle.cweb_store.specs.inner.PartRanges.{with_opened_part, with_pushed_token, with_dropped_layout}
pub use Rattle.cweb_store.specs.inner.PartRanges.{with_closed_part}
pub use Rattle.cweb_store.specs.surface.Tokens.{all_parts, token_model}
pub use Rattle.cweb_store.specs.Parts.{before_last, without_last, without_blank, without_layout, protected_count}
pub use Rattle.cweb_store.specs.Parts.{is_newline, is_layout, at_close, Token, Word, Number, Literal, Verbatim, Punct}
pub use Rattle.cweb_store.specs.Parts.{Blank, Newline, Join, Defs, Name, Head, Tail, Mark, Part, all_tokens, is_macro}
pub use Rattle.cweb_store.specs.declared.parts.PartKind.{PartKind}
pub use Rattle.cweb_store.specs.declared.parts.PartKind.TheVariants.{Unnamed}
pub use Rattle.cweb_store.proofs.TotalLemmas.{total-append}
pub use Rattle.cweb_scan.specs.Effects.{Reading, after_lexeme, blank, stays_in_head, item, punctuator}
pub use Rattle.cweb_scan.specs.Effects.{apply_effect, pass_control_text, emit_verbatim, define, pass_comment}
pub use Rattle.cweb_scan.specs.Effects.{report_name_fault, use_name, open_name, name_in_context, emit_literal, on}
pub use Rattle.cweb_scan.specs.Effects.{each_line_end, occurrence, line_end, comment_line_end, literal_unit}
pub use Rattle.cweb_scan.specs.Effects.{next_line, enter, line_end_token}
pub use Rattle.cweb_scan.specs.inner.ScanParts.{scanned_of, full, prefix, as_occurrence, tokens_of, in_open_part}
pub use Rattle.cweb_scan.specs.inner.ScanParts.{IsTied, after_token, stage_of, is_include_stage}
pub use Rattle.cweb_scan.proofs.Terms.{code_token, enter_in, line_end_in, end_macro_in, unit_state, sum_over, one}
pub use Rattle.cweb_scan.proofs.Terms.{spelling_size, occurrence_size, replacement_size, part_size, open_size}
pub use Rattle.cweb_scan.proofs.Terms.{parts_size, token_number, stored_bytes, AddsAtMost}
pub use Rattle.cweb_scan.specs.Lexemes.{HasReadTokens, InPlainC, significant, is_hash, is_clean, token_of}
pub use Rattle.cweb_scan.specs.Lexemes.{is_insignificant, ReadsAlone, doubled, literal_token, spelling_of, read_lines}
pub use Rattle.cweb_scan.specs.Lexemes.{lexemes_in, lex, scanned, Scanned}
pub use Rattle.cweb_scan.specs.laws.Laws.{lexemes, next_match, newline_prefixed, IsReadAs, AreLexemes, MarkPasses}
pub use Rattle.cweb_scan.specs.laws.Laws.{PlacesPass, source_start, newlines, LexemesKeepLines, places}
pub use Rattle.cweb_scan.specs.State.{directive_of, directive_tokens, directive_after, is_punct, ends_line}
pub use Rattle.cweb_scan.specs.State.{some_include, is_last_blank}
pub use Rattle.cweb_scan.specs.State.{is_next_line, is_c, directive, in_directive, names_include, name_occurrence}
pub use Rattle.cweb_scan.specs.State.{ScanState, leave, start_state, emit, drop_definition}
pub use Rattle.cweb_scan.specs.State.{end_macro, move_to, report, add_name, begin_section, open_part_tokens}
pub use Rattle.cweb_scan.specs.State.{leave_in, report_at, begin_part, end_part}
pub use Rattle.cweb_scan.specs.declared.directive.Directive.{Directive}
pub use Rattle.cweb_scan.specs.declared.directive.Stage.{Stage}
pub use Rattle.cweb_scan.specs.declared.directive.Stage.TheVariants.{Outside, Bare, Further}
pub use Rattle.cweb_scan.specs.inner.MatchSteps.{ReadsAhead, TakesPlain, IsPlainC, IsPlainToken, HasTaken, is_skipped}
pub use Rattle.cweb_scan.specs.inner.MatchSteps.{Applies, effect_in, is_head, is_name_effect, reads_c}
pub use Rattle.cweb_rules.specs.inner.LineItems.{IsPast}
pub use Rattle.cweb_scan.specs.inner.MatchSteps.{ended_as, reads_names, starts_name, ends_in_line}
pub use Rattle.cweb_scan.specs.inner.MatchSteps.{needs_two, AppliesOver, passed}
pub use Rattle.cweb_scan.specs.inner.ReaderModel.{ReaderModel, OpenItem, Between, Pending, is_pending, pending_text}
pub use Rattle.cweb_scan.specs.inner.ReaderModel.{pending_places, with_line, cost, read_after, TakesPrefix, read_on}
pub use Rattle.cweb_scan.specs.inner.ReaderModel.{source_ended, BeginsLine, TakesLineEnd, TakesBytes, new_reader}
pub use Rattle.cweb_scan.specs.inner.ReaderModel.{reader_at, gone_to, holding, MakesProgress, weight, HasItemRoom}
pub use Rattle.cweb_scan.specs.inner.ReaderModel.{HasPartRoom}
pub use Rattle.cweb_scan.specs.inner.PendingItems.{is_between, item_of, IsItem, IsPending, IsStored, takes_opener}
pub use Rattle.cweb_scan.specs.inner.PendingItems.{quoted_as, PassesUnits, CanTake}
pub use Rattle.cweb_scan.specs.surface.Scan.{web_size, IsBounded, AreLinesBelow, IsScanBelow, IsMarkBelow}
pub use Rattle.cweb_scan.specs.surface.Scan.{ScansWithinLimits, Scans, StopsAfter, ScanEndsEarly}
