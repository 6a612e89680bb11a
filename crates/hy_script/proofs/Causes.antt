-- The order of causes.
use Rattle.std.specs.Prelude.{nat_le}
use Rattle.std.specs.Option.{unwrap_or}
use Rattle.std.proofs.Common.{◌≡◌, Bool, true, false, cond, Option, None, Some, refl}
use Rattle.hy_bind.specs.declared.refusals.BindFault.{BindFault}
use Rattle.hy_bind.specs.declared.refusals.BindFault.TheVariants as fault
use Rattle.hy_script.specs.declared.codes.Code.{Code}
use Rattle.hy_script.specs.declared.codes.Code.TheVariants.{KeyTwice, Limit}
use Rattle.hy_script.specs.Codes.{rank, first_of_two, code_if_so, code_of}

-- a key that comes twice is the last cause
pub key_last : (f : BindFault) (full twice : Bool) → first_of_two (Some (code_of f)) (first_of_two (code_if_so full Limit) (code_if_so twice KeyTwice)) ≡ first_of_two (Some (code_of f)) (code_if_so full Limit)
key_last fault.UnknownTable true true = refl
key_last fault.UnknownTable true false = refl
key_last fault.UnknownTable false true = refl
key_last fault.UnknownTable false false = refl
key_last _ true true = refl
key_last _ true false = refl
key_last _ false true = refl
key_last _ false false = refl

one_of_two : (so : Bool) (c other : Code) → cond so (Some c) (Some other) ≡ Some (unwrap_or (cond so (Some c) (Some other)) c)
one_of_two true c other = refl
one_of_two false c other = refl

-- where one cause is there, one of two is
pub is_refused : (c : Code) (rest : Option Code) → first_of_two (Some c) rest ≡ Some (unwrap_or (first_of_two (Some c) rest) c)
is_refused c None = refl
is_refused c (Some other) = one_of_two (nat_le (rank c) (rank other)) c other
