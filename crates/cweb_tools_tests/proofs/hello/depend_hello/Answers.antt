use Rattle.std.proofs.Common.{refl, sym, ◌∙◌}
use Rattle.cweb_tools.proofs.HeadlineExamples.{hello_depends}
use Rattle.cweb_tools_tests.proofs.KnownBytes.{bytes_of, ends_not, printed}
use Rattle.cweb_tools_tests.proofs.hello.depend_hello.Goals as goal

pub returns : goal.returns
returns c = λ none.
    let left = hello_depends _ _ _ _ refl c.in_ok-shelf.ensures (record {
      shelf = refl;
      out = none.out ∙ sym c.in_ok-out.ensures.failed;
      log = none.logged ∙ sym c.in_ok-log.ensures.failed;
      memory = ends_not none.memory;
    }) c.run_wdep-status.ensures.freely in record {
      printed = rw c.in_ok-out.ensures.empty at (printed left.printed);
      logged = bytes_of left.log ∙ c.in_ok-log.ensures.empty;
      answered = left.status_is;
    }
