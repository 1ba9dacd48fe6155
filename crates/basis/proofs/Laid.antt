-- Bytes laid one after another: the remaining part of a room, lent and back.
use Prim.Native.Nat.{ℕ, ◌+◌, ◌-◌, ◌≤◌, ◌<◌}
use mathlib.Core.Path.{◌≡◌, refl, sym, ◌∙◌, ap}
use mathlib.Core.List.{List, ◌++◌, append_assoc, append-nil}
use native.Mathlib.Nat.{zero-add, le_of_eq, add_assoc}
use native.Mathlib.Numerals.{add-one}
use native.Mathlib.Omega.{arith}
use lib.ListN.{length, take, drop, set, get_or, length-drop, length-append, drop_of_length-le}
use lib.Seq.{length-take-le, take_at, drop_at, paste-suc, take_all, take-append_seam, drop-append_seam, drop-drop}
use borrow.Author.Tests.{le-ltb, lt-ltb}
use borrow.Rule.Slice.PartMut.{put_mid, mid_of}
use Rattle.basis.specs.Choice.{choose}
use Rattle.basis.specs.Laid.{laid, laid_if_fits}

-- where they fit they are laid
pub fits : (room bytes : List ℕ) → length bytes ≤ length room → laid_if_fits room bytes ≡ laid bytes room
unfolding laid_if_fits choose
fits room bytes h = rw (le-ltb (length room) (length bytes) h)

-- where they do not fit nothing is
pub left : (room bytes : List ℕ) → length room < length bytes → room ≡ laid_if_fits room bytes
unfolding laid_if_fits choose
left room bytes h = rw (lt-ltb (length room) (length bytes) h) refl

-- one byte more is copied
pub copied : (room bytes : List ℕ) (j : ℕ) → j < length room → j < length bytes → set (take j bytes ++ drop j room) j (get_or bytes j 0) ≡ take (j + 1) bytes ++ drop (j + 1) room
copied room bytes j hr hb = rw add-one (simp zero-add at (paste-suc room 0 bytes j 0 (simp zero-add hr) hb))

-- the part from a on is the rest of the list
pub rest : (a : ℕ) (xs : List ℕ) → mid_of a (length xs - a) xs ≡ drop a xs
rest a xs = take_all (length xs - a) (drop a xs) (le_of_eq (length-drop a xs))

pub lent : (a : ℕ) (xs : List ℕ) → length (mid_of a (length xs - a) xs) ≡ length xs - a
lent a xs = ap length (rest a xs) ∙ length-drop a xs

-- put back, it is all that stands behind
pub back : (a : ℕ) (xs ys : List ℕ) → put_mid a (length xs - a) xs ys ≡ take a xs ++ ys
back a xs ys =
    ap (λ (z : List ℕ). take a xs ++ (ys ++ z)) (drop_of_length-le (drop a xs) (le_of_eq (length-drop a xs)))
    ∙ ap (λ (z : List ℕ). take a xs ++ z) (append-nil ys)

-- a part from a on, with bytes laid at its start
pub inner : (a : ℕ) (xs ys bytes : List ℕ) → length bytes ≤ length xs - a → ys ≡ laid_if_fits (mid_of a (length xs - a) xs) bytes
    → put_mid a (length xs - a) xs ys ≡ take a xs ++ laid bytes (drop a xs)
inner a xs ys bytes h q =
    back a xs ys
    ∙ ap (λ (z : List ℕ). take a xs ++ z) (q ∙ ap (λ (z : List ℕ). laid_if_fits z bytes) (rest a xs) ∙ fits (drop a xs) bytes (simp length-drop h))

-- bytes laid directly behind bytes
pub behind : (room xs ys first more : List ℕ) → length first + length more ≤ length room → xs ≡ laid_if_fits room first
    → ys ≡ laid_if_fits (mid_of (length first) (length xs - length first) xs) more
    → put_mid (length first) (length xs - length first) xs ys ≡ laid (first ++ more) room
behind room xs ys first more h p q =
    let e : xs ≡ laid first room = p ∙ fits room first (omega arith) in
    let n : length xs ≡ length first + (length room - length first) = ap length e ∙ simp (length-append, length-drop) in
    inner (length first) xs ys more (omega arith) q ∙ rw (e, take-append_seam first, drop-append_seam first, drop-drop, length-append, append_assoc)

-- where m was laid from a on: with what is left to lay it gives the whole
pub further : (a : ℕ) (xs zs m later : List ℕ) → a + length m ≤ length xs → zs ≡ take a xs ++ laid m (drop a xs)
    → take (a + length m) zs ++ laid later (drop (a + length m) zs) ≡ take a xs ++ laid (m ++ later) (drop a xs)
further a xs zs m later h q =
    let p : List ℕ = take a xs ++ m in
    let z : List ℕ = drop (length m) (drop a xs) in
    let e : zs ≡ p ++ z = q ∙ sym (append_assoc (take a xs) m z) in
    let n : length p ≡ a + length m = length-append (take a xs) m ∙ ap (λ (k : ℕ). k + length m) (length-take-le a xs (omega arith)) in
    rw (e, take_at p z (a + length m) n, drop_at p z (a + length m) n) (simp (append_assoc, drop-drop, length-append, add_assoc))

-- so it is in a turn of a loop that lays one message behind another
pub turn : (a : ℕ) (xs ys m later : List ℕ) → a + length m ≤ length xs → ys ≡ laid_if_fits (mid_of a (length xs - a) xs) m
    → take (a + length m) (put_mid a (length xs - a) xs ys) ++ laid later (drop (a + length m) (put_mid a (length xs - a) xs ys)) ≡ take a xs ++ laid (m ++ later) (drop a xs)
turn a xs ys m later h q = further a xs (put_mid a (length xs - a) xs ys) m later h (inner a xs ys m (omega arith) q)
