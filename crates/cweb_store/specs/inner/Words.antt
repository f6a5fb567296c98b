-- Interned words: their keys, those of the hash table, and those of the sorted map.
use Rattle.std.specs.Prelude.{ℕ, ◌<◌, ◌+◌, ◌-◌, ◌*◌, ◌/◌, ◌%◌, ◌^◌, nat_lt, List, length, take, drop, fold}
use Rattle.std.specs.Prelude.{slice_index_or, if◌then◌else◌, bit_xor, ◌≡◌, Bool, true, [], ◌∷◌, ◌++◌, map, slice_get}
use Rattle.std.specs.Prelude.{bytes_eq, Some, Vec, suc, ◌≤◌, filter, nat_eq}
use Rattle.std.specs.Int.{w32, w64, from_le_bytes}
use Rattle.std.specs.Simd.{first_chunks}
use Rattle.cweb_store.specs.declared.words.key.Key.{Key}
use Rattle.std.specs.List.{list_any}
use Rattle.std.specs.BTreeMap.{insert_entry}
use Rattle.std.specs.Ordering.{is_eq, nat_cmp}
use Rattle.std.specs.Cmp.Lexicographic.{slice_cmp}
use Rattle.std.specs.declared.cmp.Ordering.{Ordering}
use Rattle.std.specs.declared.alloc.Global.{Global}
use Rattle.cweb_store.specs.declared.words.word.Word.{Word}
use Rattle.cweb_store.specs.inner.StringLists.{string_at}

-- each number is a byte
abbrev pub AreBytes : List ℕ → Type 0
AreBytes string = (i : ℕ) → slice_index_or string i 0 < 256

abbrev pub short_key : List ℕ → Key
short_key word = record {
  first = slice_index_or word 0 0 + 256 * slice_index_or word 1 0;
  last = slice_index_or word 2 0;
}

abbrev pub middle_key : List ℕ → Key
middle_key word = record {
  first = from_le_bytes w32 (take 4 word);
  last = from_le_bytes w32 (drop (length word - 4) word);
}

abbrev pub long_key : List ℕ → Key
long_key word = record {
  first = from_le_bytes w64 (take 8 word);
  last = from_le_bytes w64 (drop (length word - 8) word);
}

-- The whole groups of eight bytes of a word, mixed into one number. The last eight bytes, which the key has too, cover
-- the bytes after them.
unfoldable pub hash_of : List ℕ → ℕ
hash_of word = fold (λ hash group. ((hash * 0x9E3779B97F4A7C15) % 2 ^ 64 + from_le_bytes w64 group) % 2 ^ 64) 0
    (first_chunks 8 (length word / 8) word)

abbrev pub hashed_key : List ℕ → Key
hashed_key word = record {
  first = hash_of word;
  last = from_le_bytes w64 (drop (length word - 8) word);
}

-- Up to 16 bytes: the first bytes of a word and its last bytes as numbers, eight of each, or four, or what there is.
-- A longer word has a hash instead of its first bytes: long words often begin and end alike.
unfoldable pub key_of : List ℕ → Key
key_of word =
    if nat_lt (length word) 4 then short_key word
    else (if nat_lt (length word) 8 then middle_key word
    else (if nat_lt 16 (length word) then hashed_key word else long_key word))

abbrev pub product_of : Key → ℕ
product_of key = ((key.first + (key.last * 0x8EBC6AF09C88C6E3) % 2 ^ 64) % 2 ^ 64) * 0x9FB21C651E98DF25

-- the two numbers mixed into one: both halves of a product, so that each of their bits counts
unfoldable pub key_hash : Key → ℕ
key_hash key = bit_xor (product_of key / 2 ^ 64) (product_of key % 2 ^ 64)

-- the bucket of a key among n
unfoldable pub home_bucket_of : Key → ℕ → ℕ
home_bucket_of key n = (key_hash key * n) / 2 ^ 64

-- the string of a word
abbrev pub word_string : List (List ℕ) → Word → List ℕ
word_string strings w = string_at strings w.number

-- whether a string is among those of words
abbrev pub have_string : List (List ℕ) → List Word → List ℕ → Bool
have_string strings ws word = list_any (bytes_eq word) (map (word_string strings) ws)

-- a word has the length and the key of its string, and the number of it
pub record DescribesString (strings : List (List ℕ)) (w : Word) : Type 0 where
  pub string : List ℕ
  pub there : slice_get strings w.number ≡ Some string
  pub len : w.len ≡ length string
  pub key : w.key ≡ key_of string
  pub bytes : AreBytes string

abbrev pub DescribeStrings : List (List ℕ) → List Word → Type 0
DescribeStrings strings ws = (k : ℕ) (w : Word) → slice_get ws k ≡ Some w → DescribesString strings w

-- a word is among words, and the number is that of its string
pub record FindsString (strings : List (List ℕ)) (ws : List Word) (word : List ℕ) (number : ℕ) : Type 0 where
  pub among : have_string strings ws word ≡ true
  pub there : slice_get strings number ≡ Some word

-- a word was appended to words
pub record PushesWord (old : List Word) (key : Key) (len number : ℕ) (new : List Word) : Type 0 where
  pub word : Word
  pub key_is : word.key ≡ key
  pub len_is : word.len ≡ len
  pub number_is : word.number ≡ number
  pub now : new ≡ old ++ word ∷ []

abbrev pub compare_vecs : Vec ℕ Global → Vec ℕ Global → Ordering
compare_vecs x y = slice_cmp nat_cmp x.items y.items

-- the words of the sorted map, each with the number of its string
abbrev pub Entries : Type 0
Entries = List (Vec ℕ Global × ℕ)

abbrev pub entry_word : (Vec ℕ Global × ℕ) → List ℕ
entry_word e = e.0.items

-- whether a key of the sorted map is this word
abbrev pub is_word : List ℕ → Vec ℕ Global → Bool
is_word word key = is_eq (slice_cmp nat_cmp word key.items)

-- a word was inserted into the sorted map, with the number of its string
pub record IsInserted (old : Entries) (word : List ℕ) (number : ℕ) (new : Entries) : Type 0 where
  pub key : Vec ℕ Global
  pub is : key.items ≡ word
  pub now : new ≡ insert_entry compare_vecs old key number

-- each word of the sorted map is the string with its number
abbrev pub AreMapped : List (List ℕ) → Entries → Type 0
AreMapped strings [] = Unit {0}
AreMapped strings (e ∷ es) = (slice_get strings e.1 ≡ Some e.0.items) × AreMapped strings es

-- a word was interned by the sorted map alone: it was there, or it is the last string now
pub record InternsSorted (strings : List (List ℕ)) (es : Entries) (word : List ℕ) (number : ℕ)
    (new : List (List ℕ)) (more : Entries) : Type 0 where
  pub inserted : IsInserted es word number more
  pub stored : slice_get new number ≡ Some word
  pub grows : new ≡ (if list_any (bytes_eq word) (map entry_word es) then strings else strings ++ word ∷ [])

-- the invariant of interned words
pub record AreInterned (strings : List (List ℕ)) (ws : List Word) (es : Entries) : Type 0 where
  pub in_table : DescribeStrings strings ws
  pub in_map : AreMapped strings es

-- a link to the latest word of a bucket among the first `count` words
pub record IsLink (ws : List Word) (buckets bucket link count : ℕ) : Type 0 where
  pub within : link ≤ count
  pub in_bucket : (k : ℕ) (w : Word) → link ≡ suc k → slice_get ws k ≡ Some w → home_bucket_of w.key buckets ≡ bucket
  pub latest : (k : ℕ) (w : Word) → slice_get ws k ≡ Some w → home_bucket_of w.key buckets ≡ bucket → k < count
      → k < link

-- each head links to the latest word of its bucket, and each next link to the one before the word
pub record AreChains (ws : List Word) (heads nexts : List ℕ) : Type 0 where
  pub count : length nexts ≡ length ws
  pub few : length ws ≤ 4294967295
  pub from_bucket : (bucket : ℕ) → IsLink ws (length heads) bucket (slice_index_or heads bucket 0) (length ws)
  pub from_word : (k : ℕ) (w : Word) → slice_get ws k ≡ Some w → IsLink ws (length heads)
      (home_bucket_of w.key (length heads)) (slice_index_or nexts k 0) k

-- the words of a hash table, and the number of its buckets
pub record WordTableModel : Type 0 where
  pub words : List Word
  pub buckets : ℕ

-- the words in the bucket of a key among n
abbrev pub bucket_words : Key → ℕ → List Word → List Word
bucket_words key n ws = filter (λ (w : Word). nat_eq (home_bucket_of w.key n) (home_bucket_of key n)) ws

-- a bucket takes no more words than this
abbrev pub longest_chain : ℕ
longest_chain = 8
