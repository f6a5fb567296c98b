use Rattle.cweb_out.proofs.JoinedTokens.{only_section_comments_come_between_joined_tokens}
use Rattle.cweb_out.proofs.LawLemmas.{each_token_is_printed, files_have_whole_lines, print_goes_on}
use Rattle.cweb_out.proofs.laws.printing.Goals as goal

pub returns : goal.returns
returns c = record {
  goes_on = print_goes_on;
  each_token = each_token_is_printed;
  section_comments_between_joined = only_section_comments_come_between_joined_tokens;
  whole_lines = files_have_whole_lines;
}
