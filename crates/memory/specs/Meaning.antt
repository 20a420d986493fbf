-- What a memory means, what each storing step does to it, and what a list of steps does.
use Rattle.std.specs.Prelude.{◌≡◌, ℕ, zero, suc, Bool, true, false, cond, not, ◌&&◌, List, [], ◌∷◌, is_some, Some, None, Ok, Err, Option, Result, slice_index, slice_set}
use Rattle.fault.specs.Checks.{check, then}
use Rattle.fault.specs.declared.Fault.{Fault}
use Rattle.fault.specs.declared.Fault.TheVariants.{Dark, OutsideMap}
use Rattle.memory.specs.Areas.{place}
use Rattle.memory.specs.Held.{held_key, held_version}
use Rattle.memory.specs.Supply.{lit, spent}
use Rattle.memory.specs.declared.held.Held.{Held}
use Rattle.memory.specs.declared.held.KeyRecord.{KeyRecord}
use Rattle.memory.specs.declared.held.KeySlot.{KeySlot}
use Rattle.memory.specs.declared.supply.Supply.{Supply}
use Rattle.memory.specs.declared.supply.Supply.TheVariants.{NoEnd, Steps}

-- what stands in a memory: the image in map order, and the held record
pub record Contents : Type 0 where
  pub image : List ℕ
  pub held : Held

-- what stands in a memory, and its supply
pub record Meaning : Type 0 where
  pub contents : Contents
  pub supply : Supply

-- a storing step: a byte at an address; both vector bytes; version and mark; one key record
pub data Step : Type 0 where
  store : ℕ → ℕ → Step
  set_vector : ℕ → ℕ → Step
  set_version : ℕ → Bool → Step
  set_key : KeySlot → KeyRecord → Step

-- the contents with another image
abbrev pub with_image : List ℕ → Contents → Contents
with_image xs c = record { image = xs; held = c.held }

-- the contents with another held record
abbrev pub with_held : Held → Contents → Contents
with_held h c = record { image = c.image; held = h }

-- a memory with another supply
abbrev pub with_supply : Supply → Meaning → Meaning
with_supply u m = record { contents = m.contents; supply = u }

-- an image with a byte at a place
abbrev pub put_at : Option ℕ → ℕ → List ℕ → List ℕ
put_at None v xs = xs
put_at (Some p) v xs = slice_set xs p v

-- an image with a byte at an address
abbrev pub put : ℕ → ℕ → List ℕ → List ℕ
put a v xs = put_at (place a) v xs

-- what a step that is kept changes
abbrev pub apply : Step → Contents → Contents
apply (store a v) c = with_image (put a v c.image) c
apply (set_vector lo hi) c = with_image (put 0xFFFF hi (put 0xFFFE lo c.image)) c
apply (set_version v b) c = with_held (held_version v b c.held) c
apply (set_key s r) c = with_held (held_key s r c.held) c

-- whether a step keeps to the map
abbrev pub step_in_map : Step → Bool
step_in_map (store a v) = is_some (place a)
step_in_map (set_vector lo hi) = true
step_in_map (set_version v b) = true
step_in_map (set_key s r) = true

-- what a step answers: refused outside the map, else dark without supply
unfoldable pub answer : Step → Meaning → Result (Unit {0}) Fault
answer s m = then (check (step_in_map s) OutsideMap) (check (lit m.supply) Dark)

-- what a step leaves: its change and a supply lowered by one; nothing changes where it is refused
unfoldable pub after : Step → Meaning → Meaning
after s m = cond (step_in_map s && lit m.supply) (record { contents = apply s m.contents; supply = spent m.supply }) m

-- a call that makes one step: what it leaves and answers
abbrev pub Makes : Step → Meaning → Meaning → Result (Unit {0}) Fault → Type 0
Makes s before n r = record { after : n ≡ after s before; value : r ≡ answer s before }

-- what reading a place answers
abbrev pub read_at : Option ℕ → List ℕ → Result ℕ Fault
read_at None xs = Err OutsideMap
read_at (Some p) xs = Ok (slice_index xs p)

-- what reading an address answers
unfoldable pub read_of : Contents → ℕ → Result ℕ Fault
read_of c a = read_at (place a) c.image

-- what a list of steps leaves, and whether one of them was not kept
pub record Performed : Type 0 where
  pub contents : Contents
  pub supply : Supply
  pub dark : Bool

-- steps in the map, made in order as long as the supply lasts; dark at the first one past it
unfoldable pub perform : List Step → Supply → Contents → Performed
perform [] u c = record { contents = c; supply = u; dark = false }
perform (x ∷ xs) NoEnd c = perform xs NoEnd (apply x c)
perform (x ∷ xs) (Steps zero) c = record { contents = c; supply = Steps zero; dark = true }
perform (x ∷ xs) (Steps (suc n)) c = perform xs (Steps n) (apply x c)

-- steps made on a memory
abbrev pub performed : List Step → Meaning → Performed
performed xs m = perform xs m.supply m.contents

-- the memory that steps leave
abbrev pub left_by : Performed → Meaning
left_by p = record { contents = p.contents; supply = p.supply }

-- what steps answer
abbrev pub answer_of : Performed → Result (Unit {0}) Fault
answer_of p = check (not p.dark) Dark

-- a call that makes steps in order: what it leaves and answers
abbrev pub Performs : List Step → Meaning → Meaning → Result (Unit {0}) Fault → Type 0
Performs xs before n r = record { after : n ≡ left_by (performed xs before); value : r ≡ answer_of (performed xs before) }

-- whether all steps keep to the map
abbrev pub all_in_map : List Step → Bool
all_in_map [] = true
all_in_map (x ∷ xs) = step_in_map x && all_in_map xs
