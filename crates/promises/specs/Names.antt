-- Address 0000 names record 0, as 0FFF does (request 3).
use Rattle.std.specs.Prelude.{ℕ, ◌+◌, ◌*◌, ◌%◌, ◌<◌, ◌≤◌, ◌≡◌, List, [], ◌∷◌, ◌++◌, length, drop}
use Rattle.wire.specs.Bytes.{command1_of, data_at}
use Rattle.wire.specs.Checksum.{sum_of}
use Rattle.links.specs.Record.{records}
use Rattle.results.specs.Number.{number_of}
use Rattle.module.specs.declared.state.Module.{Module}
use Rattle.device.specs.Step.{step_of}
use Rattle.wire.specs.Asked.{Long}
use Rattle.promises.specs.Legal.{FromLinked}

-- a message of 23 bytes: those up to Data 2, then Data 3 and 4, then Data 5 to 13, then Data 14
abbrev pub asking : List ℕ → ℕ → ℕ → List ℕ → ℕ → List ℕ
asking head d3 d4 middle d14 = head ++ (d3 ∷ d4 ∷ (middle ++ (d14 ∷ [])))

-- Data 14 fits: the sum of Command 1 through Data 14 is a multiple of 256; with Data 2 = 00 it is not checked
pub data Fits (s : List ℕ) : Type 0 where
  unchecked : data_at s 2 ≡ 0x00 → Fits s
  checked : sum_of (drop 7 s) % 256 ≡ 0 → Fits s

-- Get and Set Database by 0000 and by 0FFF, alike in all other bytes but Data 14, which fits each: result, reply, records read,
-- module, link memory and room are equal, whoever sends them and to whom
abbrev pub EitherName : Type 0
EitherName =
    (m : Module) (l room head middle : List ℕ) (x y : ℕ) → length head ≡ 11 → length middle ≡ 9 → command1_of head ≡ 0x2f →
    Fits (asking head 0x00 0x00 middle x) → Fits (asking head 0x0f 0xff middle y) →
    step_of m l (asking head 0x00 0x00 middle x) room ≡ step_of m l (asking head 0x0f 0xff middle y) room

-- an address that is neither 0000 nor 0FFF minus 8k for a record k that is there gives 7, as before
abbrev pub NoOtherName : Type 0
NoOtherName =
    (m : Module) (l s room : List ℕ) → FromLinked m l s → 9 ≤ length room → Long s 0x2f →
    ¬ (data_at s 3 * 256 + data_at s 4 ≡ 0x0000) →
    ((k : ℕ) → k < records l → ¬ (data_at s 3 * 256 + data_at s 4 + 8 * k ≡ 0x0fff)) →
    number_of (step_of m l s room).outcome ≡ 7
