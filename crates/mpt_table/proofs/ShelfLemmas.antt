-- What calls keep of a shelf, one after the other.
use Rattle.std.proofs.Common.{◌≡◌, ◌≢◌, ℕ, ◌+◌, ◌-◌, ◌≤◌, Result, Ok, Err, arith}

-- a success is no failure
pub ok_no_err : {A E : Type 0} (x : A) (e : E) → Ok x ≢ Err e
ok_no_err x e h = cc

pub same_err : {A E : Type 0} (r : Result A E) (x y : E) → r ≡ Err x → r ≡ Err y → x ≡ y
same_err r x y h k = cc

pub keeps : (a : ℕ) → a ≤ a
keeps a = omega arith

pub rises : (a b c : ℕ) → a ≤ b → b ≤ c → a ≤ c
rises a b c p q = omega arith

-- what both calls ask for
pub asks_both : (start mid now a b most : ℕ) → mid ≤ start + a → now ≤ mid + b → b ≤ most → now ≤ start + (a + most)
asks_both start mid now a b most p q r = omega arith

pub asks_sum : (start mid now a b : ℕ) → mid ≤ start + a → now ≤ mid + b → now ≤ start + (a + b)
asks_sum start mid now a b p q = omega arith

pub asks_none : (start a : ℕ) → start ≤ start + a
asks_none start a = omega arith

pub asks_more : (start now a b : ℕ) → now ≤ start + a → now ≤ start + (a + b)
asks_more start now a b p = omega arith

-- what the areas so far asked for, and those to come
pub asks_areas : (start mid now own rest all : ℕ) → mid + (own + rest) ≤ start + all → now ≤ mid + own → now ≤ start + all
asks_areas start mid now own rest all p q = omega arith

pub asks_next : (start mid now own rest all : ℕ) → mid + (own + rest) ≤ start + all → now ≤ mid + own → now + rest ≤ start + all
asks_next start mid now own rest all p q = omega arith

-- the room that a size leaves behind a place
pub room_left : (at n size : ℕ) → at + n ≤ size → n ≤ size - at
room_left at n size p = omega arith

pub in_room : (at n size least : ℕ) → at + least ≤ size → n ≤ size - at → at + n ≤ size
in_room at n size least p q = omega arith
