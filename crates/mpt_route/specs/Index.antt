-- Tables by id, and an entry's answer by itself.
--     IsTableOf n table f     the member of the table at each id below n is what f gives of it
--     own_answer              cited by private functions alone, as row_unless is
use Rattle.std.specs.Prelude.{◌≡◌, ℕ, ◌<◌, List, length, find, Option, Some, None, Result, Ok, Err, slice_index_or}
use Rattle.mpt_spec.specs.declared.entry.IntEntry.{IntEntry}
use Rattle.mpt_route.specs.declared.bus.BusKind.{BusKind}
use Rattle.mpt_route.specs.declared.route.Route.{Route}
use Rattle.mpt_route.specs.declared.route.Why.{Why}
use Rattle.mpt_route.specs.Routes.{own_row, has_reason, reasons}

-- a list whose member at each id is what a function gives
pub record IsTableOf {E : Type 0} (n : ℕ) (table : List (Option E)) (f : ℕ → Option E) : Type 0 where
  pub whole : length table ≡ n
  pub members : (id : ℕ) → id < n → slice_index_or table id None ≡ f id

abbrev pub row_unless : Option Why → Route → Result Route Why
row_unless None row = Ok row
row_unless (Some reason) row = Err reason

-- the row that an entry asks for, unless a reason of its own has_reason against it
abbrev pub own_answer : Option BusKind → Option ℕ → ℕ → ℕ → ℕ → IntEntry → Result Route Why
own_answer b place high elcr n e = row_unless (find (has_reason b place None 0 e) reasons) (own_row b place high elcr n e)
