-- What contracts see of a sink, and what its calls do.
--   SeenSink       a sink: the bytes taken, its room, whether it is finished, the faults
--   GrowsBy        these bytes were taken, where that is told
--   GrowsByPrefix  the first ones of these bytes were taken
--   StillTells     a sink with room for these bytes tells its bytes after the call
--   Puts           a call appended bytes: all of them, or the first ones where it failed
use Rattle.std.specs.Prelude.{ℕ, ◌≡◌, ◌+◌, ◌≤◌, ◌++◌, Bool, List, length, take, Result, OnOk, OnErr, IfSome, IsSome, None, Some, ⊤}
use Rattle.std.specs.declared.option.Option.{Option}
use Rattle.sag_edge.specs.Causes.{Rose}

-- a sink: `taken` is Some where the sink tells its bytes, which it does at least while they are within `room`
pub record SeenSink : Type 0 where
  pub taken : Option (List ℕ)
  pub room : ℕ
  pub finished : Bool
  pub faults : ℕ

-- Where the bytes are told after the call they were told before it, and grew by these.
abbrev pub GrowsBy : Option (List ℕ) → Option (List ℕ) → List ℕ → Type 0
GrowsBy old None bytes = ⊤
GrowsBy None (Some after) bytes = ⊥
GrowsBy (Some before) (Some after) bytes = after ≡ before ++ bytes

-- where the bytes are told after the call, they grew by the first ones of these
abbrev pub GrowsByPrefix : Option (List ℕ) → Option (List ℕ) → List ℕ → Type 0
GrowsByPrefix old new bytes = (n : ℕ) × GrowsBy old new (take n bytes)

-- the room stays, and a sink that told its bytes and has room for these tells its bytes after the call
pub record StillTells (old new : SeenSink) (bytes : List ℕ) : Type 0 where
  pub room : new.room ≡ old.room
  pub tells : IfSome old.taken (λ taken. length taken + length bytes ≤ old.room → IsSome new.taken)

-- a call that appends bytes: all of them, or the first ones where it failed, for a fault that was counted
pub record Puts {T E : Type 0} (old new : SeenSink) (bytes : List ℕ) (result : Result T E) : Type 0 where
  pub later : old.faults ≤ new.faults
  pub ok : OnOk result (GrowsBy old.taken new.taken bytes)
  pub failed : OnErr result (Rose old.faults new.faults × GrowsByPrefix old.taken new.taken bytes)
  pub tells : StillTells old new bytes
