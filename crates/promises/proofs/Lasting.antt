-- What lasts is shown where it stands: by device and links.
use Rattle.links.proofs.Written.{length-written, places_stay, others, itself, linked_after, live_after}
use Rattle.device.proofs.Lasting as device
use Rattle.promises.specs.Lasting.{SameIdentity, SameKind, WritesLeave}

pub same_identity : SameIdentity
same_identity = device.same_identity

pub same_kind : SameKind
same_kind = device.same_kind

pub writes_leave : WritesLeave
writes_leave l k bytes few there =
    record {
      length-stays = length-written l k bytes few there;
      places_stay = places_stay l k bytes few there;
      others-stay = others l k bytes few there;
      rest-stays = itself l k bytes few there;
      linked-then = linked_after l k bytes few there;
      live_then = live_after l k bytes few there;
    }
