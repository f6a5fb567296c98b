-- Imports that the proofs of this crate share.
pub use Rattle.std.proofs.Common.{◌≡◌, ℕ, zero, suc, Bool, true, false, not, cond, ◌&&◌, ◌||◌, List, [], ◌∷◌, ◌++◌}
pub use Rattle.std.proofs.Common.{refl, sym, ◌∙◌, ap, inl, inr, subst, Option, Some, map, ◌<◌, ◌+◌, arith, length}
pub use Rattle.std.proofs.Common.{length-append, drop, None, ◌≤◌, take, get_or, append_assoc, append-nil, ◌-◌, ◌==◌}
pub use Rattle.std.proofs.Common.{codes, decimal, slice_index_or, rules, vec_capacity, slice_range, ◌*◌, ◌/◌, ◌%◌}
pub use Rattle.std.proofs.Common.{replicate, length-drop, add-one, nat_eq}
pub use Rattle.std.proofs.Math.ListN.{set}
pub use Rattle.std.proofs.Math.Seq.{take-length, take-add}
pub use Rattle.std.proofs.lemmas.Bool.{or_cases, false_from_ne_true, or_left, or_right, and_parts, eqb-true}
pub use Rattle.std.proofs.lemmas.Bool.Decides.{eqb_tells}
pub use Rattle.std.proofs.lemmas.Grind.{flat_map-append}
pub use Rattle.std.proofs.lemmas.List.{length-map, take_more, length-set, get_or-set_same, set-set, take-set}
pub use Rattle.std.proofs.lemmas.List.{get_or-map, take_more_set, drop-drop, take_at, drop_at, get_or-drop}
pub use Rattle.std.proofs.lemmas.List.{length-take-le}
pub use Rattle.std.proofs.lemmas.List.Folds.{list_any-append}
pub use Rattle.std.proofs.lemmas.List.Sums.{sum_by-append, sum_by-cons}
pub use Rattle.std.proofs.lemmas.Option.{slice_get-map, slice_get_within}
pub use Rattle.std.specs.Cmp.{second_so}
pub use Rattle.std.specs.List.{list_all, list_any, position_or_len}
pub use Rattle.std.specs.Option.{option_map_or}
pub use Rattle.std.specs.Prelude.{option_to_list, find, filter, bytes_eq, All, Result, Ok, Err, IfSome, fold, flat_map}
pub use Rattle.std.specs.Prelude.{sum_by, vec_len, slice_set, ◌⊎◌, option_map, nat_le, IsErr, slice_get, is_some}
pub use Rattle.cweb_files.specs.Sinks.{FailsWithin, SinkModel, written}
pub use Rattle.cweb_files.specs.surface.Writes.{Wrote}
pub use Rattle.cweb_store.specs.Calls.{Stored}
pub use Rattle.cweb_store.specs.Faults.{has_part}
pub use Rattle.cweb_store.specs.Names.{is_id, id}
pub use Rattle.cweb_store.specs.Parts.{is_layout, Token, has_defs_code, Name, all_tokens, Newline, Defs, Word, Number}
pub use Rattle.cweb_store.specs.Parts.{Punct, Blank, Join, Head, Tail, Literal, Verbatim, Mark, is_macro, is_comment}
pub use Rattle.cweb_store.specs.declared.name.NameId.{NameId}
pub use Rattle.cweb_store.specs.declared.name.NameRef.{NameRef}
pub use Rattle.cweb_store.specs.declared.parts.Part.{Part}
pub use Rattle.cweb_store.specs.declared.parts.PartKind.{PartKind}
pub use Rattle.cweb_store.specs.inner.DirectBytes.{direct_bytes}
pub use Rattle.cweb_store.specs.surface.Tokens.{token_model, numbers_from, numbers_where}
pub use Rattle.cweb_rules.specs.Edges.{last_is, is_operator, is_one_of, first_is}
pub use Rattle.cweb_store.specs.contracts.edges.Edge.{the_type}
pub use Rattle.cweb_store.specs.declared.edges.Edge.{Edge}
pub use Rattle.cweb_store.specs.inner.StringLists.{TokenBytesModel, is_high, token_bytes_model}
pub use Rattle.cweb_store.specs.surface.Tokens.{is_numeric, punctuator_edge, punctuator_edge_by}
pub use denote.Enum.Declared.{tag_of}
pub use Rattle.cweb_out.proofs.Terms.{last_token}
pub use Rattle.cweb_out.specs.Expansion.{expand, expanded_name, put, cycle_from, walk, ends_below, has_rank}
pub use Rattle.cweb_out.specs.Expansion.{first_endless, list_ends, joined, uses, names, program, resolved_use, use_of}
pub use Rattle.cweb_out.specs.Outputs.{Planned, Refusal, bad_name, same_name, cycle, file_outputs, has_no_program}
pub use Rattle.cweb_out.specs.Outputs.{is_good_name, name_spelling, output_name, output_of, outputs}
pub use Rattle.cweb_out.specs.Outputs.{planned_apart, planned_ending, root_list, start_of, is_slash}
pub use Rattle.cweb_out.specs.Printing.{without_joined_layout, macro_token_bytes, file_token_bytes, printed_tokens}
pub use Rattle.cweb_out.specs.Printing.{stays_joined, macro_lines, print_after, starts_line, begin_line, left_after}
pub use Rattle.cweb_out.specs.Printing.{macro_line, mark_line, Setting, quoted, print, file, macros, replaced_in}
pub use Rattle.cweb_out.specs.Printing.{word_bytes, plain_bytes, quoted_byte, word_byte}
pub use Rattle.cweb_out.specs.Spacing.{sep, is_wordlike, is_literal, is_number, begins_with, are_apart}
pub use Rattle.cweb_out.specs.declared.buffer.TheConstants.{ROOM}
pub use Rattle.cweb_out.specs.declared.frame.Frame.{Frame}
pub use Rattle.cweb_out.specs.declared.outputs.search.Waiting.{Waiting}
pub use Rattle.cweb_out.specs.declared.printer.Printer.{Printer}
pub use Rattle.cweb_out.specs.declared.printer.left.Left.{Left}
pub use Rattle.cweb_out.specs.inner.BufferedPrinting.{PrintsPrefix, MovesBy, PrintsBy, blank_where}
pub use Rattle.cweb_out.specs.inner.Edges.{file_name, separator, AreDirect, is_direct, wants_backslash, edge_is_glue}
pub use Rattle.cweb_out.specs.inner.Edges.{edge_is_literal, edge_is_number, edge_is_operator, edge_is_point}
pub use Rattle.cweb_out.specs.inner.Edges.{edge_is_wordlike, is_apart, added, continuation_bytes, macro_by, file_by}
pub use Rattle.cweb_out.specs.inner.Edges.{all_added, begin_by, own_line_bytes}
pub use Rattle.cweb_out.specs.inner.Edges.{edge_is_apart, left_after_edge, continued_by, edge_ends_line}
pub use Rattle.cweb_out.specs.inner.FrameStacks.{level, work_of, list_work, name_work, token_work, UsesLower, top_rank}
pub use Rattle.cweb_out.specs.inner.FrameStacks.{Advances, Enters, PassesNoUse}
pub use Rattle.cweb_out.specs.inner.Planning.{IsRoot, is_bad, is_endless}
pub use Rattle.cweb_out.specs.inner.Search.{AreNew, path_of, PathBegins, Chain, MarksFitPath, marks_left}
pub use Rattle.cweb_out.specs.inner.Search.{FindsUnranked, IsScanned, is_marked}
pub use Rattle.cweb_out.specs.laws.Laws.{ReplacesUses, is_no_use, print_following}
pub use Rattle.cweb_out.specs.laws.Laws.{is_whole_lines}
pub use Rattle.cweb_out.specs.surface.FrameStacks.{defs_first, left, IsFrameStack, rank, AreOwned, IsOwned}
pub use Rattle.cweb_out.specs.surface.FrameStacks.{left_at_depth, suffix, FrameIsWithin, PartIsWithin, least, name_rank}
pub use Rattle.cweb_out.specs.surface.Outputs.{root_at, IsPlanOf}
pub use Rattle.cweb_out.specs.surface.Printed.{edge_of, setting_of, tokens_of_parts, left_after_token}
pub use Rattle.cweb_out.specs.surface.Printed.{is_dropped, left_after_tokens, at_start, left_in_printer}
pub use Rattle.cweb_out.specs.surface.Printed.{tokens_of_part}
