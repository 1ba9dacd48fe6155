-- What is held: what is kept moves to the start, and more is read behind it.
use Rattle.std.proofs.Common.{◌≡◌, ℕ, ◌-◌, ◌<◌, ◌≤◌, false, not, List, [], ◌++◌, length, take, drop, sym, refl, ap, ◌∙◌, append_assoc, append-nil, arith, length-append, length-drop, take-append-drop, length-take-le, take-take, take_at}
use lib.Seq.{take-append-le}
use borrow.Author.Tests.{not-false}
use Rattle.basis.specs.Laid.{laid}
use Rattle.basis.proofs.Tests.{clash}
use Rattle.modem.specs.Stream.{cut_by}
use Rattle.desk.specs.declared.answer.Desk.{Desk}
use Rattle.desk.specs.declared.serve.Progress.{Progress}
use Rattle.desk.specs.Desk.{closed_of}
use Rattle.desk.specs.Passed.{ArrivedPromise, HeldPromise, ReadPromise}
use Rattle.desk.proofs.Passed.{still, then, more, less}

-- what is kept stands at the start
at_start : (used : ℕ) (xs : List ℕ) → take (length xs - used) (laid (drop used xs) xs) ≡ drop used xs
at_start used xs = take_at (drop used xs) _ (length xs - used) (length-drop used xs)

pub moved : (before : Desk) (l room s links held : List ℕ) (p : Progress) → ArrivedPromise before l room s p links
    → held ≡ laid (drop p.count s) s → length held ≡ length s
    → HeldPromise before l room s (record { desk = p.desk; count = length held - p.count }) links held
moved before l room s links held p a e as_long =
    let left : take (length held - p.count) held ≡ drop p.count s =
    (λ i. take (as_long i - p.count) (e i)) ∙ at_start p.count s in
    record { inside = omega arith; passed = rw left a.passed; all = λ h. rw left (a.all h) }

-- some bytes more behind those that were there, and what comes of them all
pub read_on : (before : Progress) (l room held : List ℕ) (p : Progress) (links now part : List ℕ) (k : ℕ)
    → HeldPromise before.desk l room (take k now) p links part
    → take before.count now ≡ take before.count held → before.count < k
    → ReadPromise before l room held p links (part ++ drop k now)
read_on before l room held p links now part k a e h =
    let n : ℕ = before.count in
    let seam : take n held ++ drop n (take k now) ≡ take k now =
    ap (λ (z : List ℕ). z ++ drop n (take k now)) (sym e ∙ sym (take-take n k now (omega arith))) ∙ take-append-drop n (take k now) in
    let front : take p.count (part ++ drop k now) ≡ take p.count part = take-append-le p.count part (drop k now) a.inside in
    record {
      read = drop n (take k now);
      served = record { inside = simp length-append (omega (arith, a.inside)); passed = rw (seam, front) a.passed; all = λ o. rw front (a.all o) };
    }

-- nothing more: the desk is closed over what it has
pub no_read : (before : Progress) (l room held : List ℕ) (p : Progress) (now : List ℕ) → p ≡ record { desk = closed_of before.desk; count = before.count }
    → before.count ≤ length now → take before.count now ≡ take before.count held
    → ReadPromise before l room held p l now
no_read before l room held p now is h e =
    let n : ℕ = before.count in
    rw is
    (record {
      read = [];
      served =
          record {
            inside = h;
            passed = rw (e, append-nil (take n held)) (still before.desk (closed_of before.desk) l room (take n held) refl refl);
            all = λ o. clash o refl;
          };
    })

-- before the first read nothing is held
pub at_first : (desk : Desk) (l room held : List ℕ) → ReadPromise (record { desk = desk; count = 0 }) l room held (record { desk = desk; count = 0 }) l held
unfolding cut_by
at_first desk l room held = record { read = []; served = record { inside = omega arith; passed = still desk desk l room [] refl refl; all = λ _. refl } }

-- one read after another, as long as the desk is open
pub go_on_lem : (before p p' : Progress) (l links links' room room' held now now' : List ℕ) → ReadPromise before l room held p links now
    → ReadPromise p links room' now p' links' now' → length room' ≡ length room → not p.desk.is_open ≡ false
    → ReadPromise before l room held p' links' now'
go_on_lem before p p' l links links' room room' held now now' a b e o =
    let s : List ℕ = take before.count held ++ a.read in
    let left : List ℕ = take p.count now in
    let both : s ++ b.read ≡ take before.count held ++ (a.read ++ b.read) = append_assoc (take before.count held) a.read b.read in
    let first = more before.desk p.desk l room s links left b.read a.served.passed (a.served.all (not-false _ o)) in
    let passed =
    then before.desk p.desk p'.desk l links links' room room' e (s ++ b.read) (left ++ b.read) (take p'.count now')
    first b.served.passed in
    record { read = a.read ++ b.read; served = record { inside = b.served.inside; passed = rw both at passed; all = b.served.all } }

-- an open desk has less than a frame in hand
pub in_hand : {before p : Progress} {l room held links now : List ℕ} → ReadPromise before l room held p links now → not p.desk.is_open ≡ false → p.count < 25
in_hand {before} {p} {l} {room} {held} {links} {now} a o =
    omega (arith, less (take p.count now) (a.served.all (not-false _ o)), length-take-le p.count now a.served.inside)
