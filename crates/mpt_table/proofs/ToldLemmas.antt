-- What holds of the bytes of a file where the files are told.
use Rattle.std.proofs.Common.{◌≡◌, ℕ, List, length, Option, None, Some, IfSome}
use Rattle.std.specs.Prelude.{option_map}
use Rattle.mpt_base.specs.Bytes.{part}
use Rattle.mpt_base.specs.Outside.{Files, IsSizeTold, FillsFromTold}
use Rattle.mpt_table.specs.Windows.{IfTold}

some_map : (o : Option (List ℕ)) (P Q : List ℕ → Type 0) → ((image : List ℕ) → P image → Q image) → IfSome o P → IfSome o Q
some_map None P Q f h = tt
some_map (Some image) P Q f h = f image h

some_both : (o : Option (List ℕ)) (P Q : List ℕ → Type 0) → IfSome o P → IfSome o Q → IfSome o (λ image. P image × Q image)
some_both None P Q h g = tt
some_both (Some image) P Q h g = (h, g)

-- what follows from what holds of the bytes holds of them
pub IfTold-map : (told : Option Files) (name : List ℕ) (P Q : List ℕ → Type 0) → ((image : List ℕ) → P image → Q image) → IfTold told name P → IfTold told name Q
IfTold-map None name P Q f h = tt
IfTold-map (Some files) name P Q f h = some_map (files name) P Q f h

-- two facts are one
pub IfTold-both : (told : Option Files) (name : List ℕ) (P Q : List ℕ → Type 0) → IfTold told name P → IfTold told name Q → IfTold told name (λ image. P image × Q image)
IfTold-both None name P Q h g = tt
IfTold-both (Some files) name P Q h g = some_both (files name) P Q h g

some_all : (o : Option (List ℕ)) (P : List ℕ → Type 0) → ((image : List ℕ) → P image) → IfSome o P
some_all None P h = tt
some_all (Some image) P h = h image

-- what holds of all bytes
pub IfTold-all : (told : Option Files) (name : List ℕ) (P : List ℕ → Type 0) → ((image : List ℕ) → P image) → IfTold told name P
IfTold-all None name P h = tt
IfTold-all (Some files) name P h = some_all (files name) P h

some_size : (o : Option (List ℕ)) (n : ℕ) → Some n ≡ option_map length o → IfSome o (λ image. length image ≡ n)
some_size None n e = tt
some_size (Some image) n e = cc

-- a told size is the length of the bytes
pub IfTold-size : (told : Option Files) (name : List ℕ) (n : ℕ) → IsSizeTold told name (Some n) → IfTold told name (λ image. length image ≡ n)
IfTold-size None name n e = tt
IfTold-size (Some files) name n e = some_size (files name) n e

-- a window has the bytes from its place on
pub IfTold-fills : (told : Option Files) (name : List ℕ) (at : ℕ) (buf : List ℕ) → FillsFromTold told name at buf → IfTold told name (λ image. buf ≡ part image at (length buf))
IfTold-fills None name at buf h = tt
IfTold-fills (Some files) name at buf h = h
