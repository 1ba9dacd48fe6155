-- Message after message to whoever sits there: each finds the seats and the link memory that the one before it left.
use Rattle.std.specs.Prelude.{ℕ, List, [], ◌∷◌}
use Rattle.device.specs.Run.{Call}
use Rattle.row.specs.declared.progress.Whom.{Whom}
use Rattle.seating.specs.declared.heed.Seating.{Seating}
use Rattle.seating.specs.Heed.{Heed, seated_with, heed_of}

-- who sits there, beside link memory
pub record Sat : Type 0 where
  pub seating : Seating
  pub links : List ℕ

abbrev pub heed_in : Sat → Call → Heed
heed_in s c = heed_of s.seating s.links c.message c.room

abbrev pub sat_by : Sat → Heed → Sat
sat_by s t = record { seating = seated_with s.seating t.row; links = t.links }

-- what comes out of each call, in their order
unfoldable pub heed_all : Sat → List Call → List Heed
heed_all s [] = []
heed_all s (c ∷ cs) =
    let t : Heed = heed_in s c in
    t ∷ heed_all (sat_by s t) cs

-- and what all of them leave
unfoldable pub sat_after : Sat → List Call → Sat
sat_after s [] = s
sat_after s (c ∷ cs) = sat_after (sat_by s (heed_in s c)) cs

-- what a call comes to, its room aside
pub record Told : Type 0 where
  pub number : ℕ
  pub reply : List ℕ
  pub read : ℕ
  pub whom : Whom
  pub left : Sat

abbrev pub told_by : Sat → Heed → Told
told_by s t = record { number = t.number; reply = t.reply; read = t.read; whom = t.whom; left = sat_by s t }
