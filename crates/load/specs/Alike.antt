-- Answers that differ by what Get Properties shows alone.
use Rattle.load.specs.declared.entry.Properties.{Properties}
use Rattle.load.specs.declared.entry.Entry.{Entry}

pub data Alike : Entry → Entry → Type 0 where
  same : (entry : Entry) → Alike entry entry
  shown : (x y : Properties) → Alike (Entry.Shown x) (Entry.Shown y)
