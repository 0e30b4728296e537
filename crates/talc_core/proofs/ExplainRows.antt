-- Worked explanations.
use Rattle.std.proofs.Common.{◌≡◌, [], refl}
use Rattle.std.specs.Prelude.{codes}
use Rattle.std.specs.Fmt.{digits}
use Rattle.talc_core.specs.declared.fault.Fault.TheVariants.{Source, Tal}
use Rattle.f_terms.specs.declared.fault.Code.TheVariants.{E05}
use Rattle.t_terms.specs.declared.fault.TCode.TheVariants.{T03}
use Rattle.talc_core.specs.AtOdds.{untold}
use Rattle.talc_core.specs.Explained.{explained}

-- a name without a binder, from the byte 19 up to the byte 20
unbound : explained (codes "x.f") (codes "(fix f(x:int):int. g x) 3") (Source E05 (record { start = 19; end = 20 }))
    untold
    ≡ codes
    "x.f:1:20: E05 unbound name (bytes 19..20)\n1 | (fix f(x:int):int. g x) 3\n  |                    ^\nno `fix`, `let` or `open` around it binds this name\n"
unfolding digits
unbound = refl

-- a version that is none
version : explained [] (codes "tal 3\nL0: code[]{}. halt[int]") (Tal T03 (record { start = 4; end = 5 }))
    untold
    ≡ codes
    "1:5: T03 unexpected token or end (bytes 4..5)\n1 | tal 3\n  |     ^\na text begins with `tal 1`, or with `tal 2` where it has data\n"
unfolding digits
version = refl
