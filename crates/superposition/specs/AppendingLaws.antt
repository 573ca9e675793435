-- Laws with their proofs, not definitions that a reader must believe: lists that are appended one after the other.
use Rattle.std.proofs.Common.{List, [], ◌∷◌, ◌++◌, sym, ap, ◌∙◌, append_assoc, append-nil}
use Rattle.std.specs.Prelude.{Result, Ok, Err}
use Rattle.std.specs.List.{AllByRecursion}
use Rattle.proof_steps.specs.declared.step.Line.{Line}
use Rattle.superposition.specs.declared.error.InferError.{InferError}
use Rattle.superposition.specs.declared.error.InferError.TheVariants.{Big, Memory}
use Rattle.superposition.specs.Appending.{CanBeAppended, StopsBefore, IsPrefixAppended, Appended}

pub each_append : {X : Type 0} (P : X → Type 0) (xs ys : List X) → AllByRecursion P xs → AllByRecursion P ys → AllByRecursion P (xs ++ ys)
each_append P [] ys h k = k
each_append P (x ∷ xs) ys h k = (h.0, each_append P xs ys h.1 k)

pub nothing : {T : Type 0} (old : List Line) (t : T) → Appended [] old old (Ok t)
nothing old t = (sym (append-nil old), tt)

stops_sooner : (e : InferError) (left more : List Line) → StopsBefore e left → StopsBefore e (left ++ more)
stops_sooner (Big n) [] more h = absurd h
stops_sooner (Big n) (l ∷ left) more h = h
stops_sooner Memory left more h = tt

-- the whole of one list, and then what comes of another
pub then_more : {S T : Type 0} (xs ys old mid new : List Line) (s : S) (r : Result T InferError) → Appended xs old mid (Ok s) → Appended ys mid new r → Appended (xs ++ ys) old new r
then_more xs ys old mid new s (Ok t) h k = (k.0 ∙ ap (λ l. l ++ ys) h.0 ∙ append_assoc old xs ys, each_append CanBeAppended xs ys h.1 k.1)
then_more xs ys old mid new s (Err e) h k = record {
  done = xs ++ k.done;
  left = k.left;
  parts = ap (λ l. xs ++ l) k.parts ∙ sym (append_assoc xs k.done k.left);
  appended = k.appended ∙ ap (λ l. l ++ k.done) h.0 ∙ append_assoc old xs k.done;
  fit = each_append CanBeAppended xs k.done h.1 k.fit;
  stopped = k.stopped;
}

-- an error comes before all that would follow
pub then_none : (xs ys old new : List Line) (e : InferError) → IsPrefixAppended xs old new e → IsPrefixAppended (xs ++ ys) old new e
then_none xs ys old new e h = record {
  done = h.done;
  left = h.left ++ ys;
  parts = ap (λ l. l ++ ys) h.parts ∙ append_assoc h.done h.left ys;
  appended = h.appended;
  fit = h.fit;
  stopped = stops_sooner e h.left ys h.stopped;
}
