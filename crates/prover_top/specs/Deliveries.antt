-- What is written for an answer.
use Rattle.std.specs.Prelude.{◌≡◌, ◌≢◌, ◌⊎◌, ℕ, Bool, true, false, List, Option}
use Rattle.std.specs.Io.KnownBytes.{Appends}
use Rattle.outside_io.specs.Outside.{WrotePrefix}
use Rattle.prover_top.specs.declared.answers.Answer.{Answer}
use Rattle.prover_top.specs.declared.answers.Answer.TheVariants.{Memory}
use Rattle.prover_top.specs.Answers.{reported_status}

-- the text whole, where no write failed or found no memory; else a prefix of it
pub record Wrote (status : ℕ) (failed : Bool) (old new : Option (List ℕ)) (text : List ℕ) : Type 0 where
  pub whole : status ≢ 8 → failed ≡ false → Appends old new text
  pub part : WrotePrefix old new text

-- this text was written for the answer; another one is reported only for want of memory, and none other where a write
-- failed: that answer's text was begun
pub record IsDelivered (text : List ℕ) (answer reported : Answer) (failed : Bool) (old new : Option (List ℕ)) : Type 0 where
  pub wrote : Wrote (reported_status failed reported) failed old new text
  pub same : (reported ≡ answer) ⊎ (reported ≡ Memory)
  pub begun : failed ≡ true → reported ≡ answer
