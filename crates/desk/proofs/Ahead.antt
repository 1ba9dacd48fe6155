-- What is seen behind the first n bytes, with its place counted from the start of all.
use Rattle.std.proofs.Common.{◌≡◌, ℕ, ◌+◌, ◌<◌, ◌≤◌, List, length, drop, sym, refl, ap, ◌∙◌, arith, length-drop}
use Rattle.modem.specs.declared.arrived.Seen.{Seen}
use Rattle.modem.specs.Arrived.{seek_of}
use Rattle.modem.proofs.Placed.{found, waits}
use Rattle.desk.specs.Ahead.{further, seek_behind}

apart : {A : Type 0} {k n i : ℕ} → Seen.Whole k n ≡ Seen.Waiting i → A
apart p = absurd (let z : ◌≡◌ {A = ℕ} 0 1 = cc in omega arith)

-- a whole frame, which lies among the bytes
pub record Next (n : ℕ) (s : List ℕ) (k size : ℕ) : Type 0 where
  pub at : ℕ
  pub place : k ≡ n + at
  pub seen : seek_of (drop n s) ≡ Seen.Whole at size
  pub least : 0 < size
  pub lies : k + size ≤ length s

-- none
pub record Rest (n : ℕ) (s : List ℕ) (k : ℕ) : Type 0 where
  pub at : ℕ
  pub place : k ≡ n + at
  pub seen : seek_of (drop n s) ≡ Seen.Waiting at
  pub lies : k ≤ length s

module _ (n : ℕ) (s : List ℕ) (inside : n ≤ length s) where
  pub next : (k size : ℕ) → Seen.Whole k size ≡ seek_behind n s → Next n s k size
  next k size e = go (seek_of (drop n s)) refl
    where
      go : (v : Seen) → seek_of (drop n s) ≡ v → Next n s k size
      go (Seen.Whole i z) q =
          let p : Seen.Whole k size ≡ Seen.Whole (n + i) z = e ∙ ap (further n) q in
          let place : k ≡ n + i = cc in
          let as_long : size ≡ z = cc in
          let f = found (drop n s) i z (sym q) in
          record {
            at = i;
            place = place;
            seen = q ∙ (λ j. Seen.Whole i (sym as_long j));
            least = omega (arith, f.least);
            lies = omega (arith, f.lies, length-drop n s);
          }
      go (Seen.Waiting i) q = apart (e ∙ ap (further n) q)

  pub none : (k : ℕ) → Seen.Waiting k ≡ seek_behind n s → Rest n s k
  none k e = go (seek_of (drop n s)) refl
    where
      go : (v : Seen) → seek_of (drop n s) ≡ v → Rest n s k
      go (Seen.Whole i z) q = apart (sym (e ∙ ap (further n) q))
      go (Seen.Waiting i) q =
          let p : Seen.Waiting k ≡ Seen.Waiting (n + i) = e ∙ ap (further n) q in
          let place : k ≡ n + i = cc in
          let w = waits (drop n s) i (sym q) in
          record { at = i; place = place; seen = q; lies = omega (arith, w.lies, length-drop n s) }

-- it begins behind what is done with, and ends within the bytes
pub record Lies (n : ℕ) (s : List ℕ) (k size : ℕ) : Type 0 where
  pub least : n < k + size
  pub ends : k + size ≤ length s

pub lies : (n : ℕ) (s : List ℕ) (k size : ℕ) → Seen.Whole k size ≡ seek_behind n s → n ≤ length s → Lies n s k size
lies n s k size e inside = let f = next n s inside k size e in record { least = omega (arith, f.place, f.least); ends = f.lies }
