-- Imports that the proofs of this crate share.
pub use Rattle.std.proofs.Common.{◌≡◌, ◌+◌, ℕ, List, [], ◌∷◌, ◌++◌, refl, sym, ◌∙◌, ap, subst, arith, length}
pub use Rattle.std.proofs.Common.{length-append, map, ◌≤◌, ◌<◌, ◌-◌, Option, None, Some, zero, suc, Bool, true, false}
pub use Rattle.std.proofs.Common.{◌||◌, if◌then◌else◌, ◌≢◌, ◌==◌, ◌&&◌, cond, ◌⊎◌, inl, inr, Err, get_or, take, drop}
pub use Rattle.std.proofs.Common.{get_or-set_same, rules, string_bytes, Vec, Global, eqb, replicate, ⊎_elim}
pub use Rattle.std.proofs.Common.{take-append-drop, ◌%◌, ◌^◌, w8, w64, set, get_or-set_other}
pub use Rattle.std.proofs.Math.Bool.{or-true, or-false}
pub use Rattle.std.proofs.Math.Nat.{le-max_left, le-max_right, max-le}
pub use Rattle.std.proofs.Math.Seq.{take-add, take-append-add, drop-append-add, take-append_seam}
pub use Rattle.std.proofs.lemmas.Bool.{or_parts, cases_lt}
pub use Rattle.std.proofs.lemmas.Bool.Decides.{nat_tests}
pub use Rattle.std.proofs.lemmas.Grind.{common_steps}
pub use Rattle.std.proofs.lemmas.List.{append_cancel_right, get_or_default, append_assoc, length-take, get_or_push}
pub use Rattle.std.proofs.lemmas.List.{append-nil, length-map, map-append, drop-drop, take-take, take_all, get_or_past}
pub use Rattle.std.proofs.lemmas.List.{get_or-replicate, drop_more, get_or-take, drop-take}
pub use Rattle.std.proofs.lemmas.Nat.Bits.{bit_at-zero, bit_at-trailing_zeros}
pub use Rattle.std.proofs.lemmas.Result.{err_from_is_err_and}
pub use Rattle.std.proofs.lemmas.Simd.{bit_mask_l, get_or-zip2, length-zip2, mask_l-mod, tops_compared}
pub use Rattle.std.proofs.lemmas.Slice.Eq.{bytes_eq-Decides}
pub use Rattle.std.specs.Int.{bit_at, trailing_zeros}
pub use Rattle.std.specs.List.{AllByRecursion, list_any}
pub use Rattle.std.specs.Option.{is_some, option_copied}
pub use Rattle.std.specs.Prelude.{slice_range, unwrap_or, IfSome, OnSome, nat_lt, Result, Ok, IfOk, OnOk, OnErr, codes}
pub use Rattle.std.specs.Prelude.{option_map, IfErr, is_ok, IsTrue}
pub use Rattle.std.specs.Simd.Lanes.{mask_l, zip2, top}
pub use Rattle.std.specs.Str.{bytes_eq}
pub use Rattle.cweb_files.specs.Sinks.{FailsWithin, SinkModel, written}
pub use Rattle.cweb_files.specs.declared.place.Place.{Place}
pub use Rattle.cweb_files.specs.surface.Writes.{Prints, WritesPrefix}
pub use Rattle.memchr.specs.Find.{IsFirstByte, is_byte}
pub use denote.Enum.Bare.{sameb}
pub use Rattle.cweb_lines.proofs.Errors.{same_error}
pub use Rattle.cweb_lines.proofs.EnoughSteps.{merge_yields, merge_next, merge-run_steps, merge_end}
pub use Rattle.cweb_lines.proofs.Terms.{HasWritten, SeeksTo, BuffersLines}
pub use Rattle.cweb_lines.specs.Change.{WaitingEntry, at_place, OldSide, change_code, old_after, old_at, old_lines}
pub use Rattle.cweb_lines.specs.Change.{one_more, dropping, Sought, after_x, outside, sought, sought_after}
pub use Rattle.cweb_lines.specs.Events.{emitted_lines, reported_faults, openings, taken_lines, size_of_lines, AreShort}
pub use Rattle.cweb_lines.specs.Events.{written_lines, Event, took, fault, emitted, opening}
pub use Rattle.cweb_lines.specs.Include.{World, Found, found_at, include_name, is_include_line, change_at, names_found}
pub use Rattle.cweb_lines.specs.Include.{contents_found, name_after_spaces}
pub use Rattle.cweb_lines.specs.Lines.{Line, SourceLine, CutLine, numbered_lines, trimmed, lines_in, before_blanks}
pub use Rattle.cweb_lines.specs.Lines.{is_blank, onto_first, cut_lines, RawLine, Thing, passed, raw, raws, seek}
pub use Rattle.cweb_lines.specs.Lines.{reported}
pub use Rattle.cweb_lines.specs.Merge.{Next, MergeStateModel, at_raw, included, obeyed, open_include, past, plain}
pub use Rattle.cweb_lines.specs.Merge.{run_steps, taking, NewSide, new_at, new_things, after_old, at_entry}
pub use Rattle.cweb_lines.specs.Merge.{change_events, closing_faults, fault_if, new_lines, started, onto}
pub use Rattle.cweb_lines.specs.OpenSources.{TakenCountersModel, RefusesLine}
pub use Rattle.cweb_lines.specs.contracts.change.code.Code.{the_type}
pub use Rattle.cweb_lines.specs.declared.change.Change.{Change}
pub use Rattle.cweb_lines.specs.declared.change.Stage.{Stage}
pub use Rattle.cweb_lines.specs.declared.change.Stage.TheVariants.{Changing, Done, Seeking, Waiting}
pub use Rattle.cweb_lines.specs.declared.change.code.Code.{Code}
pub use Rattle.cweb_lines.specs.declared.change.old_side.Replaced.{Replaced}
pub use Rattle.cweb_lines.specs.declared.counters.TakenCounters.{TakenCounters}
pub use Rattle.cweb_lines.specs.declared.fault.SourceFault.{SourceFault}
pub use Rattle.cweb_lines.specs.declared.fault.SourceKind.{SourceKind}
pub use Rattle.cweb_lines.specs.declared.fault.SourceKind.TheVariants.{NoName, NotThere, TooDeep, WantsZ, EndedBeforeY}
pub use Rattle.cweb_lines.specs.declared.fault.SourceKind.TheVariants.{Unequal, WebEnded, NoMatch, EndedBeforeZ, WantsY}
pub use Rattle.cweb_lines.specs.declared.fault.SourceKind.TheVariants.{MissingX, NoOldLines}
pub use Rattle.cweb_lines.specs.declared.limits.TheConstants.{LINE_LENGTH, LINES, OPEN_FILES, BYTES}
pub use Rattle.cweb_lines.specs.declared.merge_state.MergeState.{MergeState}
pub use Rattle.cweb_lines.specs.declared.merger.ahead.Ahead.{Ahead}
pub use Rattle.cweb_lines.specs.declared.open_source.LineAt.{LineAt}
pub use Rattle.cweb_lines.specs.declared.open_source.OpenSource.{OpenSource}
pub use Rattle.cweb_lines.specs.declared.open_source.stack.Stack.{Stack}
pub use Rattle.cweb_lines.specs.declared.passing.line_span.LineSpan.{LineSpan}
pub use Rattle.cweb_lines.specs.declared.passing.stretch.Stretch.{Stretch}
pub use Rattle.cweb_lines.specs.declared.source.LineFault.TheVariants.{TooLong, Read}
pub use Rattle.cweb_lines.specs.declared.source.LineTermination.TheVariants.{Full}
pub use Rattle.cweb_lines.specs.declared.step.Turn.{Turn}
pub use Rattle.cweb_lines.specs.declared.step.Turn.TheVariants.{Emitted, On, Ended}
pub use Rattle.cweb_lines.specs.declared.stop.Stop.{Stop}
pub use Rattle.cweb_lines.specs.declared.stop.Stop.TheVariants.{ReadFault, Memory, LineTooLong, TooMuchText, WriteFault}
pub use Rattle.cweb_lines.specs.inner.Ahead.{FitsLimits, FitsLimitsAt, IsAhead, LooksAhead, LooksAheadIn, BorrowsLines}
pub use Rattle.cweb_lines.specs.inner.Ahead.{line_span_at}
pub use Rattle.cweb_lines.specs.inner.MergeProgress.{Compares, IsReplaced, Replaces, IsChanged, ReportsFaultPrefix}
pub use Rattle.cweb_lines.specs.inner.MergeProgress.{StopsOldSide, old_side_of, LooksInPart, Searched, search_after}
pub use Rattle.cweb_lines.specs.inner.MergeProgress.{BegunKnown}
pub use Rattle.cweb_lines.specs.inner.Finding.{lines_found, found_as, SplitsAt, until_name_end, IsNewlineAt}
pub use Rattle.cweb_lines.specs.inner.MergeProgress.{events_after_line, EmitsAfterLine, turns_left, turn_lines}
pub use Rattle.cweb_lines.specs.inner.MergeProgress.{FailsAmong}
pub use Rattle.cweb_lines.specs.inner.OpenSources.{CountsLine, files_up_to, raw_thing, TopStops, FirstStops, StaysBelow}
pub use Rattle.cweb_lines.specs.inner.OpenSources.{OpensSource, StopsAbove, TakesAbove, TakesFirst, Counted, AreDeep}
pub use Rattle.cweb_lines.specs.inner.OpenSources.{line_number, TakesNextLine, stop_for, maximum_of}
pub use Rattle.cweb_lines.specs.inner.Passing.{IsRun, IsRunAt, IsRunOf}
pub use Rattle.cweb_lines.specs.inner.Passing.{ComesNext, EmitsBufferedLines, HasRoomFor, IsStretch, Reaches}
pub use Rattle.cweb_lines.specs.inner.Passing.{IsStretchAt, IsStretchOf, line_with_newline, lines_next, top_of}
pub use Rattle.cweb_lines.specs.inner.Passing.{AppendsPassedLines, trimmed_with_newlines, sources_next}
pub use Rattle.cweb_lines.specs.inner.Passing.{with_newlines, stretch_bytes, PassesThrough, buffer_of, PassesTop}
pub use Rattle.cweb_lines.specs.inner.Passing.{KeepsLevel, PassesSlot, all_but_last, OnlyLastExceeds}
pub use Rattle.cweb_lines.specs.inner.LineCalls.{IsLongerThan, TakesRawLine, TakesFromBuffer, bytes_left}
pub use Rattle.cweb_lines.specs.inner.Stages.{IsSettled, floor_of, begun_by, files_begun, stage_for}
pub use Rattle.cweb_lines.specs.inner.Stages.{IsOutside}
pub use Rattle.cweb_lines.specs.inner.StepCalls.{KeepsReaders, OnlyOpens, OnlyTakes, OnlyReports}
pub use Rattle.cweb_lines.specs.laws.Laws.{is_change_code, IncludeLinesAreReplaced, Includes, LinesComeApart}
pub use Rattle.cweb_lines.specs.laws.Laws.{UnmatchedEntriesAreReported, WebsWithoutIncludesAreTheirOwnLines}
pub use Rattle.cweb_lines.specs.laws.Laws.{outcome_of_events, followed_by, lines, only_lines, MergeOutcome}
pub use Rattle.cweb_lines.specs.laws.Laws.{outcome_of_lines, merge_outcome, placed, placed_line, only_fault}
pub use Rattle.cweb_lines.specs.laws.Laws.{HasOneEntry}
pub use Rattle.cweb_lines.specs.laws.Laws.{ChangeFilesWithoutEntriesChangeNothing, ChangesReplaceLines}
pub use Rattle.cweb_lines.specs.laws.Laws.{fault_renumbered, file_with_change, line_renumbered, renumbered}
pub use Rattle.cweb_lines.specs.surface.MergeProgress.{merge}
pub use Rattle.cweb_lines.specs.surface.MergeProgress.{SoFar, EmitsLines, ReportsPrefix, ReadsNext, IsAtEnd, Stopped}
pub use Rattle.cweb_lines.specs.surface.MergeProgress.{pending_of, so_far_of, IsPrefix, KeepsReported, change_lines}
pub use Rattle.cweb_lines.specs.surface.MergeProgress.{events_to_come, things_of, NothingLeft, StopsAfterLines}
pub use Rattle.cweb_lines.specs.surface.MergeProgress.{ReadFailsAfterLines, change_in, pending_in, things_below}
pub use Rattle.cweb_lines.specs.surface.MergeProgress.{things_in}
pub use Rattle.cweb_lines.specs.surface.MergerCalls.{AreReadersKnown, Grows, to_come, so_far, stop_in}
pub use Rattle.cweb_lines.specs.surface.OpenSources.{files_named, counters_of, StopsFor, matches_at, number_or_zero}
pub use Rattle.cweb_lines.specs.surface.OpenSources.{source_depth, things_above, things_over, lines_at, lines_left}
pub use Rattle.cweb_lines.specs.surface.OpenSources.{StopsReading, AreReadersNamed, IsReaderNamed, buffered}
pub use Rattle.cweb_lines.specs.surface.OpenSources.{shelf_after}
pub use Rattle.cweb_lines.specs.surface.OpenedFileNames.{optional_string_bytes, world_in, IsOneLine, HasNoNewline}
pub use Rattle.cweb_lines.specs.surface.OpenedFileNames.{opened_file_names}
pub use Rattle.cweb_lines.specs.surface.Writing.{write_failures_of, LosesLine, StopsWriting, WritingStops, LeavesSink}
pub use Rattle.cweb_lines.specs.surface.Writing.{Writes, KeepsStop, WritesAll, WritesSome, WritesUpTo}
pub use Rattle.cweb_files.proofs.Appending.{fails_then, written_none}
pub use Rattle.cweb_files.specs.declared.place.FileId.{FileId}
pub use Rattle.cweb_lines.specs.declared.source.LineFault.{LineFault}
pub use Rattle.cweb_files.specs.Shelves.{Observed, ShelfContents, ShelfModel}
