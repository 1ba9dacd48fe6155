-- What it says of a row that it is fit.
use Prim.Native.Nat.{ℕ, suc, ◌≤◌, ◌<◌, ◌+◌, ◌*◌, ◌/◌, ◌%◌}
use mathlib.Core.Path.{◌≡◌}
use mathlib.Core.Bool.{true, false, ◌&&◌}
use native.Mathlib.Nat.{suc-mul, mul-le-mul_right, mul-div-le}
use native.Mathlib.Omega.{arith}
use lib.Dec.{eqb, leb}
use borrow.Author.Tests.{leb-true, le-leb, lt-leb, eqb-true}
use Rattle.basis.specs.Numbers.{within}
use Rattle.basis.proofs.Tests.{both}
use Rattle.row.specs.Row.{is_share_fit, is_row_fit}

pub record Fit (n bytes : ℕ) : Type 0 where
  pub some : 1 ≤ n
  pub few : n ≤ 16
  pub parts : bytes % n ≡ 0
  pub share : is_share_fit (bytes / n) ≡ true

pub fit : (n bytes : ℕ) → is_row_fit n bytes ≡ true → Fit n bytes
fit n bytes h =
    let whole = both (within 1 16 n && eqb (bytes % n) 0) (is_share_fit (bytes / n)) h in
    let row = both (within 1 16 n) (eqb (bytes % n) 0) whole.0 in
    let seats = both (leb 1 n) (leb n 16) row.0 in
    record { some = leb-true 1 n seats.0; few = leb-true n 16 seats.1; parts = eqb-true (bytes % n) 0 row.1; share = whole.1 }

-- every seat's share is there
pub share_there : (n bytes i : ℕ) → i < n → i * (bytes / n) + bytes / n ≤ bytes
share_there n bytes i h =
    let one_more : suc i * (bytes / n) ≡ i * (bytes / n) + bytes / n = suc-mul i (bytes / n) in
    let inside : suc i * (bytes / n) ≤ n * (bytes / n) = mul-le-mul_right (bytes / n) h in
    let all-of-it : n * (bytes / n) ≤ bytes = mul-div-le bytes n in
    omega (arith, one_more, inside, all-of-it)

-- more than sixteen are not
pub crowded : (n bytes : ℕ) → 16 < n → is_row_fit n bytes ≡ false
crowded n bytes h = rw (le-leb 1 n (omega arith), lt-leb n 16 h)
