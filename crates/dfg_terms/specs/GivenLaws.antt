-- Laws with their proofs, not definitions that a reader must believe: what a function gives is written so, and what is written it gives.
use Rattle.std.proofs.Common.{◌≡◌, Result, Ok, Err, subst}
use Rattle.std.specs.Prelude.{IfOk}
use Rattle.dfg_terms.specs.declared.fault.ReadFault.{ReadFault}
use Rattle.dfg_terms.specs.declared.fault.InputError.{InputError}
use Rattle.dfg_terms.specs.Reading.{Gives}

pub given_holds : {X Y : Type 0} (view : X → Y) (P : X → Type 0) (result : Result X InputError) (read : Result Y ReadFault) → Gives view result read → ((x : X) → read ≡ Ok (view x) → P x) → IfOk result P
given_holds view P (Ok x) read e law = law x e
given_holds view P (Err d) read e law = tt

pub given_so : {X Y : Type 0} (view : X → Y) (result : Result X InputError) (read : Result Y ReadFault) (y : Y) → Gives view result read → read ≡ Ok y → Gives view result (Ok y)
given_so view result read y e is = subst (λ r. Gives view result r) is e
