use Rattle.std.proofs.Common.{refl, sym, ◌∙◌}
use Rattle.cweb_tools.proofs.HeadlineExamples.{hello_tangled}
use Rattle.cweb_tools_tests.proofs.KnownBytes.{bytes_of, ends_not, value}
use Rattle.cweb_tools_tests.proofs.hello.tangle_hello.Goals as goal

pub returns : goal.returns
returns c = λ none.
    let left = hello_tangled _ _ _ _ refl c.in_ok-shelf.ensures (record {
      shelf = refl;
      out = none.out ∙ sym c.in_ok-bins.ensures.failed;
      log = none.logged ∙ sym c.in_ok-log.ensures.failed;
      memory = ends_not none.memory;
    }) c.run_ctangle-status.ensures.freely in record {
      written = rw c.in_ok-bins.ensures.empty at (value left.files);
      logged = rw c.in_ok-log.ensures.empty at (bytes_of left.log);
      answered = left.status_is;
    }
