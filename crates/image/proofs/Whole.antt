-- What an image holds, and what a module that is stored leaves of it.
use Prim.Native.Nat.{ℕ}
use mathlib.Core.Path.{◌≡◌, refl, sym, ◌∙◌, ap, subst}
use Rattle.std.specs.Prelude.{Option, None, Some}
use mathlib.Core.Bool.{Bool, true, false}
use mathlib.Core.List.{List}
use native.Mathlib.Omega.{arith}
use Rattle.std.proofs.lemmas.Bool.Decides.{nat_tests}
use lib.Dec.{eqb}
use lib.ListN.{length, get_or}
use borrow.Author.Tests.{eqb-true, eq-eqb}
use Rattle.basis.specs.Choice.{choose}
use Rattle.basis.specs.Spell.{spell}
use Rattle.basis.specs.Table.{among}
use Rattle.basis.proofs.Spelled.{spelled}
use Rattle.basis.proofs.Tests.{both, clash}
use Rattle.load.specs.declared.state.Load.{Load}
use Rattle.module.specs.declared.state.Module.{Module}
use Rattle.module.specs.Module.{kind_of}
use Rattle.module.specs.Change.{with_load}
use Rattle.image.specs.Places.{LENGTH, KIND, LEVEL, RAMP, ON_LEVEL, TOP, BOTTOM}
use Rattle.image.specs.Image.{is_socket, kinds, is_image, is_on, load_of, module_of, held_in}
use Rattle.image.specs.Image.{byte_of, load_values, values, stored_in, stored_if_own}
use Rattle.image.proofs.Values.{Stand, unchanged}

pub long : (s : List ℕ) → is_image s ≡ true → length s ≡ LENGTH
unfolding is_image
long s h = eqb-true (length s) LENGTH (both (eqb (length s) LENGTH) (among (get_or s KIND 0) false (kinds s)) h).0

-- an image is of one of the two kinds, and a socket is off or on
data OneKind (s : List ℕ) : Type 0 where
  a-dimmer : get_or s KIND 0 ≡ 1 → OneKind s
  an-outlet : get_or s KIND 0 ≡ 2 → is_socket (get_or s TOP 0) ≡ true → is_socket (get_or s BOTTOM 0) ≡ true → OneKind s

one_kind : (s : List ℕ) → is_image s ≡ true → OneKind s
unfolding is_image choose
one_kind s h = go (eqb (get_or s KIND 0) 1) refl (eqb (get_or s KIND 0) 2) refl
  where
    known : among (get_or s KIND 0) false (kinds s) ≡ true
    known = (both (eqb (length s) LENGTH) (among (get_or s KIND 0) false (kinds s)) h).1

    go : (x : Bool) → eqb (get_or s KIND 0) 1 ≡ x → (y : Bool) → eqb (get_or s KIND 0) 2 ≡ y → OneKind s
    go true e y f = OneKind.a-dimmer (eqb-true _ _ e)
    go false e true f =
        let sockets = both (is_socket (get_or s TOP 0)) (is_socket (get_or s BOTTOM 0)) (rw (e, f) at known) in
        OneKind.an-outlet (eqb-true _ _ f) sockets.0 sockets.1
    go false e false f = clash (rw (e, f) at known) refl

-- a socket is read as it was written, and written as it was read
read_back : (on : Bool) → is_on (byte_of on) ≡ on
unfolding byte_of choose
read_back true = refl
read_back false = refl

is_socket_lem : (on : Bool) → is_socket (byte_of on) ≡ true
unfolding byte_of choose
is_socket_lem true = refl
is_socket_lem false = refl

written_back : (x : ℕ) → is_socket x ≡ true → byte_of (is_on x) ≡ x
unfolding byte_of choose
written_back x h = grind (arith, nat_tests)

-- the load that a kind has
dimmer_there : (s : List ℕ) → get_or s KIND 0 ≡ 1 → load_of s ≡ Load.Dimmer (record { level = get_or s LEVEL 0; ramp = get_or s RAMP 0; on_level = get_or s ON_LEVEL 0 })
unfolding load_of choose
dimmer_there s k = rw k refl

outlet_there : (s : List ℕ) → get_or s KIND 0 ≡ 2 → load_of s ≡ Load.Outlet (record { top = is_on (get_or s TOP 0); bottom = is_on (get_or s BOTTOM 0) })
unfolding load_of choose
outlet_there s k = rw k refl

-- the first byte is the kind of what is held
held_kind : (s : List ℕ) → is_image s ≡ true → kind_of (load_of s) ≡ get_or s KIND 0
held_kind s h = each (one_kind s h)
  where
    each : OneKind s → kind_of (load_of s) ≡ get_or s KIND 0
    each (OneKind.a-dimmer k) = ap kind_of (dimmer_there s k) ∙ sym k
    each (OneKind.an-outlet k top bottom) = ap kind_of (outlet_there s k) ∙ sym k

-- an image of a module's kind and identity, in which that module may be stored
pub record Own (s : List ℕ) (m : Module) : Type 0 where
  pub is_one : is_image s ≡ true
  pub who : m.identity ≡ (module_of s).identity
  pub of_kind : kind_of m.load ≡ get_or s KIND 0

-- so an image is of the kind and identity of what it holds
pub holds : (s : List ℕ) → is_image s ≡ true → Own s (module_of s)
holds s h = record { is_one = h; who = refl; of_kind = held_kind s h }

-- stored in its own image, what is held leaves every byte as it stands
pub its_own : (s : List ℕ) → is_image s ≡ true → stored_in s (module_of s) ≡ s
its_own s h = each (one_kind s h)
  where
    stand : (load : Load) → load_of s ≡ load → Stand (load_values load) s → stored_in s (module_of s) ≡ s
    stand load e st = unchanged (values (module_of s)) s (refl, (refl, (refl, (refl, (refl, rw e st)))))

    each : OneKind s → stored_in s (module_of s) ≡ s
    each (OneKind.a-dimmer k) = stand _ (dimmer_there s k) (refl, (refl, (refl, tt)))
    each (OneKind.an-outlet k top bottom) = stand _ (outlet_there s k) (written_back (get_or s TOP 0) top, (written_back (get_or s BOTTOM 0) bottom, tt))

-- an image, written out one by one, with the values of a module that has this load
module _ (s : List ℕ) (m : Module) (n : length s ≡ LENGTH) where
  abbrev made : List ℕ → Load → List ℕ
  made z load = stored_in z (with_load load m)

  abbrev spelt : List ℕ
  spelt = spell LENGTH 0 s

  -- it is an image still
  stays_of : (load : Load) → kind_of load ≡ get_or s KIND 0 → is_image (made s load) ≡ true
  unfolding is_image choose
  stays_of (Load.Dimmer lamp) k = ap (λ (z : List ℕ). is_image (made z (Load.Dimmer lamp))) (sym (spelled LENGTH s n)) ∙ rw (sym k) refl
  stays_of (Load.Outlet sockets) k =
      ap (λ (z : List ℕ). is_image (made z (Load.Outlet sockets))) (sym (spelled LENGTH s n))
      ∙ rw (sym k, is_socket_lem sockets.top, is_socket_lem sockets.bottom) refl

  -- and holds that module
  whole_of : (load : Load) → m.identity ≡ (module_of s).identity → kind_of load ≡ get_or s KIND 0 → module_of (made s load) ≡ with_load load m
  unfolding load_of choose
  whole_of (Load.Dimmer lamp) w k =
      let there : load_of (made spelt (Load.Dimmer lamp)) ≡ Load.Dimmer lamp = rw (sym k) refl in
      ap (λ (z : List ℕ). module_of (made z (Load.Dimmer lamp))) (sym (spelled LENGTH s n))
      ∙ (λ i. record { identity = sym w i; flags = m.flags; led = m.led; house = m.house; unit = m.unit; delta = m.delta; load = there i })
  whole_of (Load.Outlet sockets) w k =
      let there : load_of (made spelt (Load.Outlet sockets)) ≡ Load.Outlet sockets =
      rw (sym k) (λ i. Load.Outlet (record { top = read_back sockets.top i; bottom = read_back sockets.bottom i })) in
      ap (λ (z : List ℕ). module_of (made z (Load.Outlet sockets))) (sym (spelled LENGTH s n))
      ∙ (λ i. record { identity = sym w i; flags = m.flags; led = m.led; house = m.house; unit = m.unit; delta = m.delta; load = there i })

  -- what is stored next takes its place
  again_of : (load : Load) (x : Module) (other : Load) → kind_of load ≡ kind_of other → stored_in (made s load) (with_load other x) ≡ stored_in s (with_load other x)
  again_of (Load.Dimmer lamp) x (Load.Dimmer other) e =
      ap (λ (z : List ℕ). stored_in (made z (Load.Dimmer lamp)) (with_load (Load.Dimmer other) x)) (sym (spelled LENGTH s n))
      ∙ ap (λ (z : List ℕ). stored_in z (with_load (Load.Dimmer other) x)) (spelled LENGTH s n)
  again_of (Load.Outlet sockets) x (Load.Outlet other) e =
      ap (λ (z : List ℕ). stored_in (made z (Load.Outlet sockets)) (with_load (Load.Outlet other) x)) (sym (spelled LENGTH s n))
      ∙ ap (λ (z : List ℕ). stored_in z (with_load (Load.Outlet other) x)) (spelled LENGTH s n)
  again_of (Load.Dimmer lamp) x (Load.Outlet other) e = absurd (omega (arith, e))
  again_of (Load.Outlet sockets) x (Load.Dimmer other) e = absurd (omega (arith, e))

-- what one call leaves is what the next one finds
pub whole_module : (s : List ℕ) (m : Module) → Own s m → module_of (stored_in s m) ≡ m
whole_module s m o = whole_of s m (long s o.is_one) m.load o.who o.of_kind

-- in an image that stays one, of the same kind and identity
pub stays_own : (s : List ℕ) (m : Module) → Own s m → Own (stored_in s m) m
stays_own s m o =
    let one = stays_of s m (long s o.is_one) m.load o.of_kind in
    let it = whole_module s m o in
    record {
      is_one = one;
      who = ap (λ (x : Module). x.identity) (sym it);
      of_kind = ap (λ (x : Module). kind_of x.load) (sym it) ∙ held_kind (stored_in s m) one;
    }

-- of two modules stored one after the other nothing but the second is left
pub stored_again : (s : List ℕ) (m x : Module) → Own s m → Own s x → stored_in (stored_in s m) x ≡ stored_in s x
stored_again s m x o p = again_of s m (long s o.is_one) m.load x x.load (o.of_kind ∙ sym p.of_kind)

-- where image and kind are right the module is stored
pub own : (s : List ℕ) (m : Module) → is_image s ≡ true → kind_of m.load ≡ get_or s KIND 0 → stored_if_own s m ≡ stored_in s m
unfolding stored_if_own choose
own s m h k = rw (h, eq-eqb (kind_of m.load) (get_or s KIND 0) k)

-- whoever is held is the module of an image
pub record Its (s : List ℕ) (m : Module) : Type 0 where
  pub one : is_image s ≡ true
  pub whose : m ≡ module_of s

module _ (s : List ℕ) where
  abbrev Told : Option Module → Type 0
  Told None = is_image s ≡ false
  Told (Some m) = Its s m

  told : Told (held_in s)
  unfolding held_in choose
  told = go (is_image s) refl
    where
      go : (b : Bool) → is_image s ≡ b → Told (choose b (Some (module_of s)) None)
      go true e = record { one = e; whose = refl }
      go false e = e

  pub is_held : (m : Module) → Some m ≡ held_in s → Its s m
  is_held m e = subst Told (sym e) told

  pub unheld : (r : Option Module) → r ≡ held_in s → ((m : Module) → r ≡ Some m → ⊥) → is_image s ≡ false
  unheld r e none = go r none (subst Told (sym e) told)
    where
      go : (r : Option Module) → ((m : Module) → r ≡ Some m → ⊥) → Told r → is_image s ≡ false
      go None none e = e
      go (Some m) none e = absurd (none m refl)
