-- Imports that the proofs of this crate share.
pub use Rattle.std.proofs.Common.{◌≡◌, ℕ, Bool, true, false, ◌&&◌, List, refl, [], ◌∷◌, Option, Some, None, sym, subst}
pub use Rattle.std.proofs.Common.{drop, ◌<◌, ◌+◌, ◌||◌, ◌==◌, ap, ◌∙◌, arith, ◌-◌, ◌≤◌, suc, zero, cond, ◌++◌, length}
pub use Rattle.std.proofs.Common.{take, not, map, length-append, slice_index_or, ◌*◌, ◌≢◌, get_or, take-append-drop}
pub use Rattle.std.proofs.Common.{append_assoc, replicate, eqb}
pub use Rattle.std.proofs.Math.Bool.{and-false, or-true, or-false, and-true}
pub use Rattle.std.proofs.Math.Seq.{take-add, drop-nil, take-append_seam}
pub use Rattle.std.proofs.lemmas.Bool.{and_parts, or_parts, eqb-true, leb-true, ne_eqb, eqb-false, ltb-true}
pub use Rattle.std.proofs.lemmas.Bool.{not-true, or_left}
pub use Rattle.std.proofs.lemmas.Bool.Decides.{nat_tests}
pub use Rattle.std.proofs.lemmas.Fmt.{length-decimal-le}
pub use Rattle.std.proofs.lemmas.Grind.{flat_map-append, common_steps}
pub use Rattle.std.proofs.lemmas.List.{length-drop, length-take-le, take-append-le, drop-append-le, append-nil}
pub use Rattle.std.proofs.lemmas.List.{length-take, drop_min}
pub use Rattle.std.proofs.lemmas.List.Sums.{prefix_len-le-length, prefix_len_is}
pub use Rattle.std.specs.Cmp.{second_so}
pub use Rattle.std.specs.Fmt.{decimal}
pub use Rattle.std.specs.List.{prefix_len, list_all, flat_map, position_or_len, fold, starts_with}
pub use Rattle.std.specs.List.{list_any}
pub use Rattle.std.specs.Option.{unwrap_or}
pub use Rattle.std.specs.Prelude.{codes, if◌then◌else◌, nat_le, nat_lt, min, bytes_eq}
pub use Rattle.cweb_files.specs.declared.place.Place.{Place}
pub use Rattle.memchr.specs.Find.{IsFirstByte, is_byte2, is_byte3, is_byte}
pub use Rattle.cweb_rules.specs.Bytes.{is_blank, is_line_end, is_word_byte, begins, starts_section}
pub use Rattle.cweb_rules.specs.Bytes.{at_line_end, is_delimiter, is_digit, is_gap, is_octal, is_hex}
pub use Rattle.cweb_rules.specs.Bytes.{is_replacing, starts_number, listed, longest, number_len, continues_number}
pub use Rattle.cweb_rules.specs.Edges.{first_is, is_one_of}
pub use Rattle.cweb_rules.specs.Codes.{in_c, in_limbo, in_tex, in_macro}
pub use Rattle.cweb_rules.specs.Constants.{letter, constant, character, escapes, escaped, octal}
pub use Rattle.cweb_rules.specs.Constants.{after_backslash, is_plain_character, character_at, faulty_size, constant_of}
pub use Rattle.cweb_rules.specs.Constants.{hex_at, letter_with, letter_after}
pub use Rattle.cweb_rules.specs.inner.Rules.{octal_value, ends_faulty, in_class, seconds, second_is}
pub use Rattle.cweb_rules.specs.inner.Rules.{begins_triple, begins_pair, is_settled}
pub use Rattle.cweb_rules.specs.Items.{Reach, reach_in, with_unit, reach_size, body, reach}
pub use Rattle.cweb_rules.specs.Items.{look_in_literal, look_in_comment}
pub use Rattle.cweb_rules.specs.Items.{look_in_control, look_in_name, look_in_include}
pub use Rattle.cweb_rules.specs.Items.{look_in_raw, reach_of_comment, reach_of_line_comment}
pub use Rattle.cweb_rules.specs.Items.{opener_len, unit_bytes, unescaped}
pub use Rattle.cweb_rules.specs.Matches.{c_match, tex_match, starts_include, section_match}
pub use Rattle.cweb_rules.specs.Literals.{starts_raw, starts_literal}
pub use Rattle.cweb_rules.specs.Matches.{found_letter_match, effect_match, code_match, comment_match}
pub use Rattle.cweb_rules.specs.Matches.{line_comment_match, literal_match, raw_match, quoted_match}
pub use Rattle.cweb_rules.specs.Literals.{has_quote_at}
pub use Rattle.cweb_rules.specs.Matches.{control_text_match, verbatim_match, constant_match}
pub use Rattle.cweb_rules.specs.Literals.{literal_prefix, quote_of}
pub use Rattle.cweb_rules.specs.Matches.{letter_match, opener_after, name_match}
pub use Rattle.cweb_rules.specs.Literals.{raw_prefix, has_delimiter, delimiter}
pub use Rattle.cweb_rules.specs.Matches.{include_match, macro_match, head_match_of, match_in, is_closed}
pub use Rattle.cweb_rules.specs.Literals.{raw_closer}
pub use Rattle.cweb_rules.specs.Matches.{head_match, RuleMatch, Kind, Code, Section, Blanks, LineEnd, Quoted}
pub use Rattle.cweb_rules.specs.Matches.{Identifier, Numeral, Punctuator, rule_match, Comment, Skipped, Letter}
pub use Rattle.cweb_rules.specs.Matches.{Verbatim, Constant, Occurrence, Defined, c_rule, c_match_by}
pub use Rattle.cweb_rules.proofs.ItemReaches.{reach_of_control_text, reach_of_name, reach_of_literal}
pub use Rattle.cweb_rules.proofs.ItemReaches.{reach_of_included_name, reach_of_raw_literal, at_start}
pub use Rattle.cweb_rules.specs.declared.constants.Character.{Character}
pub use Rattle.cweb_rules.specs.declared.constants.Transliteration.{Transliteration}
pub use Rattle.cweb_rules.specs.declared.constants.Valued.{Valued}
pub use Rattle.cweb_rules.specs.declared.context.Context.{Context}
pub use Rattle.cweb_rules.specs.declared.context.Context.TheVariants.{Limbo, TeX, Definition, Macro, CText}
pub use Rattle.cweb_rules.specs.declared.effect.Effect.{Effect}
pub use Rattle.cweb_rules.specs.declared.effect.Effect.TheVariants.{Nothing, Define, Format, Program, Named, InsertDefs}
pub use Rattle.cweb_rules.specs.declared.effect.Effect.TheVariants.{Joins, EmitAt, Faulty}
pub use Rattle.cweb_rules.specs.declared.end.End.{End}
pub use Rattle.cweb_rules.specs.declared.end.End.TheVariants.{Closed, Cut, Open, Nested}
pub use Rattle.cweb_rules.specs.declared.fault.ScanKind.TheVariants.{ImproperHexNumber, DoubleAtInLimbo, IgnoredInCText}
pub use Rattle.cweb_rules.specs.declared.items.Item.{Item}
pub use Rattle.cweb_rules.specs.declared.items.Item.TheVariants.{Name, LineComment, Literal, IncludedName, RawLiteral}
pub use Rattle.cweb_rules.specs.declared.items.Reached.{Reached}
pub use Rattle.cweb_rules.specs.declared.look.Look.{Look}
pub use Rattle.cweb_rules.specs.declared.look.Look.TheVariants.{Goes, Ends}
pub use Rattle.cweb_rules.specs.declared.rule.Rule.{Rule}
pub use Rattle.cweb_rules.specs.inner.LineItems.{opens_effect, opens_code, opens_comment, opens_raw, opens_literal}
pub use Rattle.cweb_rules.specs.inner.LineItems.{c_opens, tex_opens, IsLine, AtLineEnd, opens_name, macro_opens}
pub use Rattle.cweb_rules.specs.inner.LineItems.{opens_in, is_unclosed, look_of, reached, is_raw_special, is_special}
pub use Rattle.cweb_rules.specs.inner.LineItems.{is_plain, opens_by, IsPast}
pub use Rattle.cweb_rules.specs.laws.Laws.{is_quiet, JoinsAll, IsToken, all_join, after_word, after_number, joins_last}
pub use Rattle.cweb_rules.specs.laws.Laws.{continues_lexeme, emits_at, is_token, begins_as, at_line_ends, Pays}
pub use Rattle.cweb_rules.specs.laws.Laws.{FitsAndPays}
