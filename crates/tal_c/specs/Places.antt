-- Guests in memory of the host.
use Rattle.std.specs.Prelude.{ℕ}
use Rattle.std.specs.Ptr.{Ptr, lies_at, room_at}
use prog.Memory.{size, align}
use denote.Memory.{lone}
use base.Fraction.{full_share}
use base.Fml.{Fml, ftrue, fsep, fex}
use Rattle.tal_c.specs.declared.guest.Guest.{Guest}
use Rattle.tal_c.specs.contracts.guest.Guest.{the_row}

-- room for a guest, whatever it holds now
abbrev pub room_for_guest : Ptr → Fml
room_for_guest p = room_at the_row p

-- this guest lies there
abbrev pub guest_at : Ptr → Guest → Fml
guest_at p guest = lies_at the_row full_share p guest

-- a guest of which this holds lies there
abbrev pub some_guest_at : Ptr → (Guest → Type 0) → Fml
some_guest_at p Says = fex Guest (λ guest. fsep (guest_at p guest) (fex (Says guest) (λ _. ftrue)))

-- how many bytes a guest takes, and at a multiple of which address it stands
abbrev pub guest_size : ℕ
guest_size = size (lone the_row.mir)

abbrev pub guest_align : ℕ
guest_align = align (lone the_row.mir)
