-- Eight bytes are a signature exactly where the number that they are is the signature's.
use native.Mathlib.Omega.{arith}
use Rattle.header.proofs.Signatures.{signed_31, signed_30, unsigned}
use Rattle.header.proofs.is_signature.Goals as goal

pub returns-in-1313565747201 : goal.returns-in-1313565747201
returns-in-1313565747201 c = signed_31 c.args.s.now c.requires (λ i. (c.type_inv.s i).fits) c.read_u64_le.result c.read_u64_le.ensures c.in-1313565747201.is

pub returns-in-1309270779905 : goal.returns-in-1309270779905
returns-in-1309270779905 c = signed_30 c.args.s.now c.requires (λ i. (c.type_inv.s i).fits) c.read_u64_le.result c.read_u64_le.ensures c.in-1309270779905.is

pub returns-in_default : goal.returns-in_default
returns-in_default c =
    unsigned c.args.s.now c.requires (λ i. (c.type_inv.s i).fits) c.read_u64_le.result c.read_u64_le.ensures (λ e. omega arith) (λ e. omega arith)
