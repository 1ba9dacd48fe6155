-- Link memory cut into chunks of eight bytes is cut into its records.
use Prim.Native.Nat.{ℕ, zero, suc, ◌+◌, ◌*◌, ◌<◌, ◌≤◌}
use mathlib.Core.Path.{◌≡◌, refl, sym, ◌∙◌, ap}
use mathlib.Core.List.{List, []}
use native.Mathlib.Nat.{zero-add}
use native.Mathlib.Omega.{arith}
use lib.ListN.{length, take, drop, get_or, length-drop}
use lib.Seq.{length-take-le, get_or-take, get_or-drop, drop-drop}
use Rattle.std.specs.Simd.{first_chunks}
use Rattle.basis.specs.Spell.{spell}
use Rattle.basis.proofs.Spelled.{spelled, alike}
use Rattle.links.specs.Record.{records, start_of, record_at}

chunk : (n k : ℕ) (l : List ℕ) → k < n → get_or (first_chunks 8 n l) k [] ≡ take 8 (drop (k * 8) l)
chunk zero k l h = absurd (omega (arith, h))
chunk (suc n) zero l h = refl
chunk (suc n) (suc k) l h =
    let next : 8 + k * 8 ≡ suc k * 8 = omega arith in
    chunk n k (drop 8 l) (omega arith) ∙ ap (take 8) (drop-drop (k * 8) 8 l ∙ ap (λ (i : ℕ). drop i l) next)

cut : (i : ℕ) (l : List ℕ) → i + 8 ≤ length l → spell 8 i l ≡ take 8 (drop i l)
cut i l h =
    let there : length (take 8 (drop i l)) ≡ 8 = length-take-le 8 (drop i l) (simp length-drop (omega arith)) in
    alike 8 i 0 l (take 8 (drop i l)) (λ j g. sym (ap (λ (x : ℕ). get_or (take 8 (drop i l)) x 0) (zero-add j) ∙ get_or-take 8 (drop i l) j 0 g ∙ get_or-drop i l j 0))
    ∙ spelled 8 (take 8 (drop i l)) there

pub at_record : (l : List ℕ) (k : ℕ) → k < records l → get_or (first_chunks 8 (records l) l) k [] ≡ record_at l k
unfolding start_of
at_record l k h = chunk (records l) k l h ∙ sym (cut (k * 8) l (omega arith))
