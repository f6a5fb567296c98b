use Rattle.cweb_store.proofs.Common.{sym, ◌∙◌, ap, arith, bytes_eq, bytes_decides, word_string, slice_get_within}
use Rattle.cweb_store.proofs.StringListLemmas.{get-string}
use Rattle.cweb_store.proofs.KeyLemmas.{key-tells}
use Rattle.cweb_store.proofs.words.word.Word.is.Goals as goal

pub returns-then-not-has_key : goal.returns-then-not-has_key
returns-then-not-has_key c =
    let own = word_string c.args.strings.now c.args.self.now in
    let describes = c.requires.describes in
    grind (
      arith,
      bytes_decides c.args.string.now own,
      get-string c.args.strings.now c.args.self.now.number describes.string describes.there,
      c.has_key.ensures.is.1,
    )

pub returns-then-string-le-KEY_BYTES : goal.returns-then-string-le-KEY_BYTES
returns-then-string-le-KEY_BYTES c =
    let own = word_string c.args.strings.now c.args.self.now in
    let describes = c.requires.describes in
    grind (
      arith,
      bytes_decides c.args.string.now own,
      get-string c.args.strings.now c.args.self.now.number describes.string describes.there,
      c.has_key.ensures.is.0,
      key-tells c.args.string.now describes.string,
      c.has_key.ensures.bytes,
    )

pub string-requires : goal.string-requires
string-requires c = slice_get_within c.args.strings.now c.args.self.now.number c.requires.describes.string
    c.requires.describes.there

pub returns-else-string-le-KEY_BYTES : goal.returns-else-string-le-KEY_BYTES
returns-else-string-le-KEY_BYTES c = c.eq.ensures ∙ ap (bytes_eq c.args.string.now)
    (sym (get-string c.args.strings.now c.args.self.now.number c.string.result.now c.string.ensures))
