-- Byte after byte: those that are taken, with those that the words from a place on are, are all.
use Prim.Native.Nat.{ℕ, zero, suc, ◌+◌, ◌≤◌, ◌<◌}
use mathlib.Core.Path.{◌≡◌, refl, sym, ◌∙◌}
use mathlib.Core.Bool.{Bool, true, false}
use mathlib.Core.List.{List, [], ◌∷◌, ◌++◌, append_assoc, append-nil}
use native.Mathlib.Nat.{add-zero}
use native.Mathlib.Omega.{arith}
use lib.Dec.{leb}
use lib.ListN.{length, length-append}
use borrow.Author.Tests.{le-leb, lt-leb}
use Rattle.std.specs.Prelude.{Option, Some, None}
use Rattle.basis.specs.Choice.{choose}
use Rattle.roster.specs.Words.{word_start, word_end, word_at, words_from, words_behind}
use Rattle.roster.specs.Bytes.{byte_of, before, all_bytes, behind, bytes_behind, bytes_of}
use Rattle.roster.proofs.Parted.{starts, ends, ends_there, one_word, no_word}

module _ (first : List ℕ) where
  none_more : length first ≤ 7 → bytes_behind first [] ≡ Some first
  unfolding bytes_behind all_bytes choose
  none_more h = rw (add-zero, le-leb (length first) 7 h, append-nil first)

  module _ (w : List ℕ) (ws : List (List ℕ)) where
    one_more : (b : ℕ) → byte_of w ≡ Some b → bytes_behind first (w ∷ ws) ≡ bytes_behind (first ++ b ∷ []) ws
    unfolding bytes_behind all_bytes
    one_more b e =
        let as_long : length (first ++ b ∷ []) + length ws ≡ length first + suc (length ws) = simp length-append (omega arith) in
        rw (e, as_long, next (all_bytes ws))
      where
        next : (o : Option (List ℕ)) → behind first (before (Some b) o) ≡ behind (first ++ b ∷ []) o
        next None = refl
        next (Some bytes) = rw (append_assoc first (b ∷ []) bytes)

    no_byte : byte_of w ≡ None → bytes_behind first (w ∷ ws) ≡ None
    unfolding bytes_behind all_bytes choose
    no_byte e = rw e (go (leb (length first + suc (length ws)) 7))
      where
        go : (t : Bool) → choose {A = Option (List ℕ)} t None None ≡ None
        go true = refl
        go false = refl

    too_many : 7 ≤ length first → bytes_behind first (w ∷ ws) ≡ None
    unfolding bytes_behind choose
    too_many h = rw (lt-leb (length first + suc (length ws)) 7 (omega arith))

-- of the words from place i on these bytes are taken, and place k is reached
pub record Taken (s : List ℕ) (i k : ℕ) (bytes : List ℕ) : Type 0 where
  pub inside : k ≤ length s
  pub few : length bytes ≤ 7
  pub left : ℕ
  pub enough : length s ≤ k + left
  pub gives : bytes_behind bytes (words_from left s k) ≡ bytes_of (words_behind s i)

pub nothing_taken : (s : List ℕ) (i : ℕ) → i ≤ length s → Taken s i i []
nothing_taken s i h = record { inside = h; few = omega arith; left = length s; enough = omega arith; gives = refl }

module _ (s : List ℕ) (i k : ℕ) (bytes : List ℕ) (p : Taken s i k bytes) where
  abbrev start : ℕ
  start = word_start s k

  abbrev end : ℕ
  end = word_end s start

  abbrev word : List ℕ
  word = word_at s start

  pub all_taken : length s ≤ start → Some bytes ≡ bytes_of (words_behind s i)
  all_taken h = sym (none_more bytes p.few) ∙ rw (no_word s k p.left h) at p.gives

  -- one more word, and so many asked for behind it
  abbrev More : Type 0
  More = (m : ℕ) × (length s ≤ end + m) × (bytes_behind bytes (word ∷ words_from m s end) ≡ bytes_of (words_behind s i))

  opened : start < length s → (m : ℕ) → length s ≤ k + m → bytes_behind bytes (words_from m s k) ≡ bytes_of (words_behind s i) → More
  opened h zero a e = let g = starts s k p.inside in absurd (omega arith)
  opened h (suc m) a e =
      let g = starts s k p.inside in
      let f = ends s k h in
      (m, omega arith, rw (one_word s k m h) at e)

  module _ (h : start < length s) where
    abbrev next : More
    next = opened h p.left p.enough p.gives

    pub word-taken : (b : ℕ) → length bytes < 7 → byte_of word ≡ Some b → Taken s i end (bytes ++ b ∷ [])
    word-taken b a e =
        record {
          inside = (ends s k h).1;
          few = simp length-append (omega arith);
          left = next.0;
          enough = next.1;
          gives = sym (one_more bytes word (words_from next.0 s end) b e) ∙ next.2;
        }

    pub no_more : 7 ≤ length bytes → None ≡ bytes_of (words_behind s i)
    no_more a = sym (too_many bytes word (words_from next.0 s end) a) ∙ next.2

    pub other_word : byte_of word ≡ None → None ≡ bytes_of (words_behind s i)
    other_word e = sym (no_byte bytes word (words_from next.0 s end) e) ∙ next.2

-- the same where the next word begins, or the line ends; and what is then still to come
pub record Reached (s : List ℕ) (i k : ℕ) (bytes : List ℕ) : Type 0 where
  pub behind : ℕ
  pub begins : k ≡ word_start s behind
  pub taken : Taken s i behind bytes
  pub further : k < length s → k < word_end s k
  pub inside : k < length s → word_end s k ≤ length s
  pub all_read : length s ≤ k → Some bytes ≡ bytes_of (words_behind s i)
  pub full : k < length s → 7 ≤ length bytes → None ≡ bytes_of (words_behind s i)
  pub no_digits : k < length s → None ≡ byte_of (word_at s k) → None ≡ bytes_of (words_behind s i)

module _ (s : List ℕ) (i : ℕ) where
  reached : (j : ℕ) (bytes : List ℕ) → Taken s i j bytes → (k : ℕ) → k ≡ word_start s j → Reached s i k bytes
  reached j bytes p k e =
      record {
        behind = j;
        begins = e;
        taken = p;
        further = λ h. (ends_there s j k e h).0;
        inside = λ h. (ends_there s j k e h).1;
        all_read = λ h. all_taken s i j bytes p (rw e at h);
        full = λ h a. no_more s i j bytes p (rw e at h) a;
        no_digits = λ h q. other_word s i j bytes p (rw e at h) (sym (rw e at q));
      }

  pub none_read : (k : ℕ) (bytes : List ℕ) → i ≤ length s → k ≡ word_start s i → bytes ≡ [] → Reached s i k bytes
  none_read k bytes h e q = rw q (reached i [] (nothing_taken s i h) k e)

  pub next_read : (k : ℕ) (bytes : List ℕ) → Reached s i k bytes → k < length s → (b : ℕ) → Some b ≡ byte_of (word_at s k) → length bytes < 7
      → (k' : ℕ) → k' ≡ word_start s (word_end s k) → (bytes' : List ℕ) → bytes' ≡ bytes ++ b ∷ [] → Reached s i k' bytes'
  next_read k bytes p h b q a k' g bytes' n =
      let e = p.begins in
      rw n (reached _ _ (word-taken s i p.behind bytes p.taken (rw e at h) b a (sym (rw e at q))) k' (rw e at g))

-- turn by turn
pub ruleset byte_steps = (starts, none_read, next_read)
