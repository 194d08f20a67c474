-- What contracts see of a source of files, and what its calls do.
--   SeenFiles   a source of files: what it tells, the current file, the blamed name, the faults
--   BeginsAt    a file was begun
--   Blames      a call failed at a file
--   ReadsBytes  a read gave bytes
--   Splits      a file is what was read of it, and what is left
--   HasRead     these bytes of the current file were read
--   HandsOn     so many bytes more of it were read, and handed on
use Rattle.std.specs.Prelude.{ℕ, ◌≡◌, ◌<◌, ◌≤◌, ◌++◌, List, [], length, None, Some, ⊤}
use Rattle.std.specs.Option.{option_map}
use Rattle.std.specs.declared.option.Option.{Option}
use Rattle.std.specs.Io.KnownBytes.{Consumes, IsAtEnd}
use Rattle.sag_edge.specs.Contents.{Contents, bytes_at}

-- a source of files: `contents` are the files and `left` the bytes left of the current one, Some where the
-- source tells them; `blamed` is the file at which the latest failed call failed
pub record SeenFiles : Type 0 where
  pub contents : Option Contents
  pub left : Option (List ℕ)
  pub current : Option (List ℕ)
  pub blamed : Option (List ℕ)
  pub faults : ℕ

-- the named file is current, at its first byte
pub record BeginsAt (old new : SeenFiles) (name : List ℕ) : Type 0 where
  pub current : new.current ≡ Some name
  pub blamed : new.blamed ≡ old.blamed
  pub left : new.left ≡ option_map (λ m. bytes_at m name) old.contents

-- no file is current, and this one is blamed
pub record Blames (new : SeenFiles) (name : Option (List ℕ)) : Type 0 where
  pub current : new.current ≡ None
  pub blamed : new.blamed ≡ name

-- a read gave these bytes, and none into a piece with room only at the end of the file
pub record ReadsBytes (old new : SeenFiles) (given : List ℕ) (room : ℕ) : Type 0 where
  pub current : new.current ≡ old.current
  pub blamed : new.blamed ≡ old.blamed
  pub bytes : Consumes old.left new.left given
  pub end : given ≡ [] → 0 < room → IsAtEnd new.left

-- where the source tells its bytes, the named file is these and what is left
abbrev pub Splits : Option Contents → Option (List ℕ) → List ℕ → List ℕ → Type 0
Splits None left name list = ⊤
Splits (Some m) None name list = ⊥
Splits (Some m) (Some rest) name list = bytes_at m name ≡ list ++ rest

-- the named file is current, and these bytes of it were read
pub record HasRead (old new : SeenFiles) (name list : List ℕ) : Type 0 where
  pub contents : new.contents ≡ old.contents
  pub current : new.current ≡ Some name
  pub blamed : new.blamed ≡ old.blamed
  pub later : old.faults ≤ new.faults
  pub bytes : Splits old.contents new.left name list

-- so many bytes more of the current file were read, and what has taken bytes before takes them behind those
pub record HandsOn {T : Type 0} (n : ℕ) (old new : SeenFiles) (Before After : T → List ℕ → Type 0) : Type 0 where
  pub given : List ℕ
  pub count : length given ≡ n
  pub read : (start : SeenFiles) (name list : List ℕ) → HasRead start old name list → HasRead start new name (list ++ given)
  pub takes : (start : T) (bytes : List ℕ) → Before start bytes → After start (bytes ++ given)
