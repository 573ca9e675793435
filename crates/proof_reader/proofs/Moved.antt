-- A fault that is moved is the fault of what is moved.
use Rattle.std.proofs.Common.{ℕ, Result, ap}
use Rattle.dfg_terms.specs.declared.fault.ReadFault.{ReadFault}
use Rattle.dfg_terms.specs.declared.fault.InputError.{InputError}
use Rattle.dfg_terms.specs.declared.fault.InputError.TheVariants as errors
use Rattle.dfg_terms.specs.Reading.{Fails}
use Rattle.proof_reader.specs.ProofLists.{moved, moved_error}

pub fails_moved : {X : Type 0} (at : ℕ) (e : InputError) (r : Result X ReadFault) → Fails e r → Fails (moved_error at e) (moved at r)
fails_moved at errors.Memory r h = tt
fails_moved at (errors.Fault f) r h = ap (moved at) h
