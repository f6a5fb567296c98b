use Rattle.cweb_store.proofs.Common.{arith, bytes_decides, word_string}
use Rattle.cweb_store.proofs.StringListLemmas.{get-string}
use Rattle.cweb_store.proofs.KeyLemmas.{key-tells}
use Rattle.cweb_store.proofs.words.word.Word.is_short.Goals as goal

pub returns-then-string-le-KEY_BYTES : goal.returns-then-string-le-KEY_BYTES
returns-then-string-le-KEY_BYTES c = λ is strings describes.
    grind (
      arith,
      bytes_decides c.args.string.now (word_string strings c.args.self.now),
      get-string strings c.args.self.now.number describes.string describes.there,
      c.has_key.ensures.is.0 is,
      key-tells c.args.string.now describes.string,
      c.has_key.ensures.bytes,
    )
