use Rattle.cweb_files.proofs.Entries.{put-texts}
use Rattle.cweb_files.proofs.memory.MemoryShelf.put.Goals as goal

pub returns-clause-ok : goal.returns-clause-ok
returns-clause-ok c =
    put-texts c.args.self.now.entries.items c.push.new.self.items _ c.args.name.now c.args.text.now
    c.in_ok-push.ensures.items c.in_ok-name.ensures.ok c.in_ok-text.ensures.items
