-- Imports that the proofs of this crate share.
pub use Rattle.std.proofs.Common.{length-append, append_assoc, append-nil, drop-cons, add-zero, length, get_or, false}
pub use Rattle.std.proofs.Common.{subst, arith, rules, List, ◌++◌, refl, Bool, zero, true, cond, take, drop, ◌&&◌, ◌||◌}
pub use Rattle.std.proofs.Common.{◌≡◌, inl, inr, ◌∷◌, sym, ◌∙◌, ◌+◌, ◌≤◌, ◌⊎◌, ◌<◌, suc, map, not, ◌≢◌, [], ap, ℕ, ◌↔◌}
pub use Rattle.std.proofs.Common.{◌-◌, eq-eqb}
pub use Rattle.std.proofs.Math.Bool.{and-false, and-true, or-false, or-true}
pub use Rattle.std.proofs.Math.ListN.{get_or-append}
pub use Rattle.std.proofs.lemmas.Bool.{and_parts, or_parts, and_from, not-true, ne_eqb}
pub use Rattle.std.proofs.lemmas.Bool.Decides.{nat_tests}
pub use Rattle.std.proofs.lemmas.Grind.{flat_map-append, common_steps}
pub use Rattle.std.proofs.lemmas.List.{length-map, take-append-drop, take_more, take_all, map-append}
pub use Rattle.std.proofs.lemmas.List.Elements.{All-nil, All-cons, All-head, All-tail, All-append}
pub use Rattle.std.proofs.lemmas.List.Folds.{list_all-append, list_any-append, flat_map-map, list_any_at}
pub use Rattle.std.proofs.lemmas.List.Sums.{sum_by-append, sum_by-cons, suffix_len_is}
pub use Rattle.std.proofs.lemmas.Option.{same_Some, get_or_from_slice_get, slice_get-map}
pub use Rattle.std.proofs.lemmas.Str.Pattern.{rfind_char}
pub use Rattle.std.specs.Borrow.{Bor}
pub use Rattle.std.specs.List.{flat_map, list_all, list_any, after_last, before_last, suffix_len}
pub use Rattle.std.specs.Option.{option_copied, option_map_or}
pub use Rattle.std.specs.Prelude.{OnErr, option_map, None, Option, Some, IsErr, IsSome, IsTrue, Result, Ok, Err}
pub use Rattle.std.specs.Prelude.{count_by, decimal, codes, ◌==◌, All, OnOk, IfSome, if◌then◌else◌, nat_le, IfOk}
pub use Rattle.std.specs.Prelude.{IsErrOf, is_some, option_and_then, slice_get, slice_index_or, slice_range}
pub use Rattle.std.specs.Str.{bytes_eq}
pub use Rattle.cweb_files.specs.Files.{File}
pub use Rattle.cweb_files.specs.Sinks.{FailsWithin, SinkContents, SinkModel, appended, changed, committed, failing}
pub use Rattle.cweb_files.specs.Sinks.{with_draft, with_printed, without_draft, without_file, written}
pub use Rattle.cweb_files.specs.declared.bins.BinFault.TheVariants.{Device}
pub use Rattle.cweb_files.specs.declared.place.FileId.{FileId}
pub use Rattle.cweb_files.specs.declared.place.Place.{Place}
pub use Rattle.cweb_files.specs.surface.Writes.{WritesPrefix, Wrote}
pub use Rattle.cweb_lines.proofs.EnoughSteps.{merge-run_steps}
pub use Rattle.cweb_lines.proofs.Terms.{begun_with}
pub use Rattle.cweb_lines.specs.Events.{emitted_lines, reported_faults, openings, taken_lines, IsWithinLimits, AreShort}
pub use Rattle.cweb_lines.specs.Events.{written_lines, BreaksLimit, counts_of, Event, took}
pub use Rattle.cweb_lines.specs.Include.{names_found, contents_found, World, Found, web_at, change_at}
pub use Rattle.cweb_lines.specs.Lines.{Line, SourceLine}
pub use Rattle.cweb_lines.specs.Merge.{MergeStateModel, run_steps, started}
pub use Rattle.cweb_lines.specs.declared.fault.SourceFault.{SourceFault}
pub use Rattle.cweb_lines.specs.declared.fault.SourceKind.TheVariants.{Unequal, NotThere}
pub use Rattle.cweb_lines.specs.declared.files.FileNames.{FileNames}
pub use Rattle.cweb_lines.specs.declared.limits.TheConstants.{LINES, BYTES, LINE_LENGTH}
pub use Rattle.cweb_lines.specs.declared.stop.Stop.{Stop}
pub use Rattle.cweb_lines.specs.declared.stop.Stop.TheVariants.{LogFault, Memory, Usage, WebNotOpened, ChangeNotOpened}
pub use Rattle.cweb_lines.specs.declared.stop.Stop.TheVariants.{ReadFault, LineTooLong, TooMuchText, OutNotOpened}
pub use Rattle.cweb_lines.specs.declared.stop.Stop.TheVariants.{WriteFault}
pub use Rattle.cweb_lines.specs.surface.MergeProgress.{merge}
pub use Rattle.cweb_lines.specs.surface.MergeProgress.{SoFar, EmitsLines, StopsAfterLines, ReportsPrefix}
pub use Rattle.cweb_lines.specs.surface.MergerCalls.{BeginsMerge, StopsAtStart, so_far}
pub use Rattle.cweb_lines.specs.surface.OpenSources.{files_named, StartStops, StopsReading, StopsFor}
pub use Rattle.cweb_lines.specs.surface.OpenedFileNames.{opened_file_names}
pub use Rattle.cweb_lines.specs.surface.Writing.{write_failures_of, StopsWriting, WritingStops}
pub use Rattle.cweb_out.specs.Expansion.{expand, expanded_name, put, joined, names, program, resolved_use, cycle_from}
pub use Rattle.cweb_out.specs.Expansion.{first_endless}
pub use Rattle.cweb_out.specs.Outputs.{root_list, Planned, Refusal, bad_name, same_name, cycle, Output, is_slash}
pub use Rattle.cweb_out.specs.Printing.{setting, Setting, file, print, print_after, file_token_bytes, word_bytes}
pub use Rattle.cweb_out.specs.Printing.{without_joined_layout}
pub use Rattle.cweb_out.specs.Spacing.{sep, are_apart}
pub use Rattle.cweb_out.specs.declared.expander.Expander.{Expander}
pub use Rattle.cweb_out.specs.declared.outputs.fault.PlanFault.{PlanFault}
pub use Rattle.cweb_out.specs.declared.outputs.fault.PlanFault.TheVariants.{Cycle, SameName, BadName}
pub use Rattle.cweb_out.specs.declared.printer.Printer.{Printer}
pub use Rattle.cweb_out.specs.inner.BufferedPrinting.{PrintsPrefix}
pub use Rattle.cweb_out.specs.surface.FrameStacks.{defs_first, left}
pub use Rattle.cweb_out.specs.surface.Outputs.{output_name_at, output_at, root_at, IsExpectedFault}
pub use Rattle.cweb_out.specs.surface.Printed.{Moves, PrintsToken, left_in_printer, setting_of, MarkFileIsNamed}
pub use Rattle.cweb_rules.specs.Bytes.{is_digit, is_letter, is_word_byte, is_white}
pub use Rattle.cweb_rules.specs.Items.{unescaped}
pub use Rattle.cweb_rules.specs.Matches.{Quoted, Numeral, Punctuator, Code, Kind}
pub use Rattle.cweb_rules.specs.declared.context.Context.TheVariants.{CText}
pub use Rattle.cweb_rules.specs.declared.effect.Effect.{Effect}
pub use Rattle.cweb_rules.specs.declared.effect.Effect.TheVariants.{EmitAt}
pub use Rattle.cweb_rules.specs.declared.end.End.{End}
pub use Rattle.cweb_rules.specs.declared.end.End.TheVariants.{Closed}
pub use Rattle.cweb_rules.specs.declared.fault.ScanFault.{ScanFault}
pub use Rattle.cweb_rules.specs.declared.fault.ScanKind.{ScanKind}
pub use Rattle.cweb_rules.specs.declared.fault.ScanKind.TheVariants.{ControlTextDidNotEnd, ReplacementTooLong}
pub use Rattle.cweb_rules.specs.declared.fault.ScanKind.TheVariants.{LetterOutsideLimbo, ImproperHexNumber}
pub use Rattle.cweb_rules.specs.declared.fault.ScanKind.TheVariants.{DefinitionDropped, CommentDidNotEnd}
pub use Rattle.cweb_rules.specs.declared.fault.ScanKind.TheVariants.{DoubleAtInString, DoubleAtInLimbo, StringDidNotEnd}
pub use Rattle.cweb_rules.specs.declared.fault.ScanKind.TheVariants.{NamesDoNotNest, FaultyConstant, IgnoredInCText}
pub use Rattle.cweb_rules.specs.declared.fault.ScanKind.TheVariants.{NameDidNotEnd, DefsInMacro, MissingAt}
pub use Rattle.cweb_rules.specs.laws.Laws.{is_quiet, after_word, after_number, joins_last, JoinsAll, begins_as}
pub use Rattle.cweb_scan.specs.Effects.{Reading}
pub use Rattle.cweb_scan.specs.Lexemes.{InPlainC, HasReadTokens, ReadsAlone, significant, is_insignificant, doubled}
pub use Rattle.cweb_scan.specs.Lexemes.{at_doubled, is_hash, spelling_of, token_of, literal_token, is_clean, Scanned}
pub use Rattle.cweb_scan.specs.Lexemes.{scanned}
pub use Rattle.cweb_scan.specs.State.{start_state, open_part_tokens}
pub use Rattle.cweb_scan.specs.laws.Laws.{IsReadAs, continues_token}
pub use Rattle.cweb_scan.specs.surface.Scan.{IsMarkBelow, ScanEndsEarly, Scans, StopsAfter, scanned_model}
pub use Rattle.cweb_store.specs.Calls.{Stored, empty, with_open}
pub use Rattle.cweb_store.specs.Names.{Occurrence, id}
pub use Rattle.cweb_store.specs.Parts.{Part, is_macro, Token, Mark, Name, Defs, all_tokens, is_of, is_unnamed, Word}
pub use Rattle.cweb_store.specs.Parts.{Number, Literal, Verbatim, Punct, Blank, Newline, Join, Head, Tail}
pub use Rattle.cweb_store.specs.declared.name.How.TheVariants.{Full, Prefix}
pub use Rattle.cweb_store.specs.declared.name.NameId.{NameId}
pub use Rattle.cweb_store.specs.declared.name.NameRef.{NameRef}
pub use Rattle.cweb_store.specs.declared.parts.PartKind.{PartKind}
pub use Rattle.cweb_store.specs.declared.parts.PartKind.TheVariants.{Unnamed, Named}
pub use Rattle.cweb_store.specs.surface.Tokens.{numbers_from, numbers_where}
pub use Rattle.cweb_rules.specs.Edges.{first_is, is_one_of, is_operator, last_is}
pub use Rattle.cweb_tools.proofs.Terms.{tangle_later, web_status, course_of, PrintsSoFar}
pub use Rattle.cweb_tools.specs.Acts.{Act, judges, says, opens, reads, merges, plans, reserves, writes, prints}
pub use Rattle.cweb_tools.specs.Acts.{after_act, blaming, with_file, PerformsActs, Breaks, Ending, ending, RunEnds}
pub use Rattle.cweb_tools.specs.Acts.{completes, stops, LogsEnding, LogsStop, IsOfFile, FailsReading, FailsLog}
pub use Rattle.cweb_tools.specs.Acts.{FailsOutput, logged_items, acts_status, FollowsActs}
pub use Rattle.cweb_tools.specs.CommandLine.{OptionsModel, options_by, shown_by_default, WebNames, web_names_by}
pub use Rattle.cweb_tools.specs.CommandLine.{TangleNames, named_by, names_by, other_words, words_shown, stem}
pub use Rattle.cweb_tools.specs.CommandLine.{letters_shown, is_dot, has_extension}
pub use Rattle.cweb_tools.specs.MergeActs.{Course, merging, IsMergeCourse, change_name, world_of}
pub use Rattle.cweb_tools.specs.Depend.{depend_acts, depend_plan_acts, depend_web_acts}
pub use Rattle.cweb_tools.specs.DeviceModels.{Devices, FailedReads, Logs, contents_of, devices, failed_reads}
pub use Rattle.cweb_tools.specs.DeviceModels.{log_failed, logged}
pub use Rattle.cweb_tools.specs.Headline.{written_files, printed_bytes, ActsKeepLimits, RanFreely, DoesActs}
pub use Rattle.cweb_tools.specs.Headline.{DoesActsFreely, files_in}
pub use Rattle.cweb_tools.specs.Items.{line, LogItem, is_fault, source_item, fault, starred, located, banner, closing}
pub use Rattle.cweb_tools.specs.Items.{faults, no_errors, no_text, see_warning, stopped, name_item, name_items}
pub use Rattle.cweb_tools.specs.Items.{scan_item, refusal_message, star, cycle_step}
pub use Rattle.cweb_tools.specs.Items.{stop_line, file_name_at}
pub use Rattle.cweb_tools.specs.MergeActs.{merge_acts, MergeCanCome, merge_devices}
pub use Rattle.cweb_tools.specs.Script.{Numbers, closing_acts, unread, not_there, change_not_there, Planning, refused}
pub use Rattle.cweb_tools.specs.Script.{Web, planned_acts, script, starred_acts, tangling, when, output_acts}
pub use Rattle.cweb_tools.specs.Script.{outputs_acts, TangleCourse, web_acts, planned}
pub use Rattle.cweb_tools.specs.Spacing.{IsPlain, Spacing, is_ascii}
pub use Rattle.cweb_tools.specs.Tangle.{CanCome, shown_by, IsTangleCourse, output_file, tangled, web_of, planning}
pub use Rattle.cweb_tools.specs.Tangle.{planning_by, TanglePromises}
pub use Rattle.cweb_tools.specs.declared.options.Options.{Options}
pub use Rattle.cweb_tools.specs.declared.options.Shown.{Shown}
pub use Rattle.cweb_tools.specs.declared.outputs.Failed.{Failed}
pub use Rattle.cweb_tools.specs.inner.Does.{ending_of, found_course, merge_course, EndsMerge, at, Does, DoesInOut}
pub use Rattle.cweb_tools.specs.inner.Does.{DoesInBoth, DoesInLog, EndsInBoth, EndsInLog, log_ending}
pub use Rattle.cweb_tools.specs.inner.Tangle.{StaysReady, left_in, IsReady, output_ending, file_at, planned_files}
pub use Rattle.cweb_tools.specs.inner.LogText.{items_of, start_subject, subject, plan_item, joined_parts, refusal_in}
pub use Rattle.cweb_tools.specs.inner.LogText.{chunks_of, Buffers, AppendsToLog, part_bytes}
pub use Rattle.cweb_tools.specs.inner.RuleModel.{dependencies}
pub use Rattle.cweb_tools.specs.inner.Tangle.{plan_made, fault_count, EndsAs, tangle_course, LaterActs, opening_acts}
pub use Rattle.cweb_tools.specs.inner.Tangle.{status_by, files_of, faults_of}
pub use Rattle.cweb_tools.specs.laws.RunEffects.{draft_in, last_refusal, FailsOnce, ReportsFaults, RisesOnce}
pub use Rattle.cweb_tools.specs.laws.RunEffects.{HasReadAll, LeavesFiles, bins_blame, read_failures_of, tangle_files}
pub use Rattle.cweb_tools.specs.laws.RunEffects.{tangle_status, LeavesDevices, PrintsActs, IsEnded, IsStopped}
pub use Rattle.cweb_tools.specs.surface.Options.{options_of}
