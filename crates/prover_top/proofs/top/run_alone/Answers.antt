use Rattle.prover_top.proofs.Clauses.{has_table, has_answer, proof_only, proof_always, completion_only, rounds_only, steps_only, size_only, words_only, words_always, fault_only, fault_always, read_count, too_long_only, input_only, too_long_always, input_always, complete}
use Rattle.prover_top.proofs.top.run_alone.Goals as goal

pub returns-clause-table : goal.returns-clause-table
returns-clause-table g c = has_table _ _ _ _ _ _ c.respond.ensures.outcome

pub returns-clause-answer : goal.returns-clause-answer
returns-clause-answer g c = has_answer _ _ _ _ _ _ c.respond.ensures.outcome

pub returns-clause-proof : goal.returns-clause-proof
returns-clause-proof g c = proof_only _ _ _ _ _ _ c.respond.ensures.outcome

pub returns-clause-proof_always : goal.returns-clause-proof_always
returns-clause-proof_always g c = proof_always _ _ _ _ _ _ c.respond.ensures.outcome

pub returns-clause-completion : goal.returns-clause-completion
returns-clause-completion g c = completion_only _ _ _ _ _ _ c.respond.ensures.outcome

pub returns-clause-rounds : goal.returns-clause-rounds
returns-clause-rounds g c = rounds_only _ _ _ _ _ _ c.respond.ensures.outcome

pub returns-clause-steps : goal.returns-clause-steps
returns-clause-steps g c = steps_only _ _ _ _ _ _ c.respond.ensures.outcome

pub returns-clause-size : goal.returns-clause-size
returns-clause-size g c = size_only _ _ _ _ _ _ c.respond.ensures.outcome

pub returns-clause-words : goal.returns-clause-words
returns-clause-words g c = words_only _ _ _ _ _ _ c.respond.ensures.outcome

pub returns-clause-words_always : goal.returns-clause-words_always
returns-clause-words_always g c = words_always _ _ _ _ _ _ c.respond.ensures.outcome

pub returns-clause-fault : goal.returns-clause-fault
returns-clause-fault g c = fault_only _ _ _ _ _ _ c.respond.ensures.outcome

pub returns-clause-too_long : goal.returns-clause-too_long
returns-clause-too_long g c = too_long_only _ _ _ _ _ _ c.respond.ensures.outcome

pub returns-clause-input : goal.returns-clause-input
returns-clause-input g c = input_only _ _ _ _ _ _ c.respond.ensures.outcome

pub returns-clause-too_long_always : goal.returns-clause-too_long_always
returns-clause-too_long_always g c = too_long_always _ _ _ _ _ _ c.respond.ensures.outcome

pub returns-clause-input_always : goal.returns-clause-input_always
returns-clause-input_always g c = input_always _ _ _ _ _ _ c.respond.ensures.outcome

pub returns-clause-complete : goal.returns-clause-complete
returns-clause-complete g c = complete _ _ _ _ _ _ c.respond.ensures.outcome

pub returns-clause-fault_always : goal.returns-clause-fault_always
returns-clause-fault_always g c = fault_always _ _ _ _ _ _ c.respond.ensures.outcome

pub returns-clause-read_count : goal.returns-clause-read_count
returns-clause-read_count g c = read_count _ _ _ _ _ _ c.respond.ensures.outcome
