-- Worked names, numbers and margins.
use Rattle.std.proofs.Common.{◌≡◌, pos, negsuc, [], codes, refl}
use Rattle.std.specs.Fmt.{digits}
use Rattle.idx_core.specs.declared.arith.Op.TheVariants.{Mul}
use Rattle.page_core.specs.Names.{margin, number, op_sign, separator, type_name, type_names, value_name}

first_value : value_name 0 ≡ codes "x0"
unfolding digits
first_value = refl

tenth_value : value_name 10 ≡ codes "x10"
unfolding digits
tenth_value = refl

first_type : type_name 0 ≡ codes "a"
first_type = refl

last_letter : type_name 25 ≡ codes "z"
last_letter = refl

second_round : type_name 26 ≡ codes "a1"
unfolding digits
second_round = refl

after_it : type_name 27 ≡ codes "b1"
unfolding digits
after_it = refl

third_round : type_name 77 ≡ codes "z2"
unfolding digits
third_round = refl

none : type_names 3 0 ≡ codes "[]"
none = refl

three : type_names 24 3 ≡ codes "[y, z, a1]"
unfolding digits
three = refl

negative : number (negsuc 11) ≡ codes "~12"
unfolding digits
negative = refl

zero_is : number (pos 0) ≡ codes "0"
unfolding digits
zero_is = refl

no_margin : margin 0 ≡ []
no_margin = refl

two_levels : margin 2 ≡ codes "    "
two_levels = refl

forty_levels : margin 1000 ≡ margin 40
forty_levels = refl

first_item : separator 0 ≡ []
first_item = refl

third_item : separator 2 ≡ codes ", "
third_item = refl

times : op_sign Mul ≡ codes " * "
times = refl
