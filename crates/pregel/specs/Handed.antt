-- The definitions that a program, its master, its service and their contracts name, handed on from below.

-- the graph and its edits
pub use Rattle.pg_graph.specs.Handed.{EdgeList, weight_at, with_edge, without_edge, Edit, EditFault}
pub use Rattle.pg_graph.specs.Edit.{batch_edited}
pub use Rattle.pg_graph.specs.Rows.{HasRisingIds, Rows, edge_count, row_at, vertex_count}
pub use Rattle.pg_graph.specs.declared.missing.Missing.{Missing}
pub use Rattle.pg_import.specs.Batch.{batch_of}
pub use Rattle.pg_import.specs.Comma.{csv_of}
pub use Rattle.pg_import.specs.Import.{list_of}
-- programs, jobs and runs
pub use Rattle.pg_model.specs.Job.{Aggregating, Combining, Deciding, Decision, Inputs, Job, Program, Totals, has_place}
pub use Rattle.pg_model.specs.Needed.{needed_count}
pub use Rattle.pg_model.specs.Programs.{contributed, decides_nothing, greatest_of, least_of, only_writes, to_all}
pub use Rattle.pg_model.specs.Programs.{cc, indegree, max_value, pagerank, peel, sssp}
pub use Rattle.pg_model.specs.Run.{answer, executions}
pub use Rattle.pg_model.specs.Superstep.{capped, is_empty}
pub use Rattle.pg_model.specs.declared.record.Record.{Record}
pub use Rattle.pg_model.specs.declared.run.Ending.{Ending}
pub use Rattle.pg_model.specs.declared.run.Run.{Run}
pub use Rattle.pg_model.specs.declared.view.Declared.{Declared}
pub use Rattle.pg_model.specs.declared.view.View.{View}
-- values, vertices and contexts
pub use Rattle.pg_program.specs.Coding.{IsDecoded, IsRead}
pub use Rattle.pg_program.specs.Coding.{integer_coding, list_coding, natural_coding, pair_coding, truth_coding}
pub use Rattle.pg_program.specs.Computation.{Executes}
pub use Rattle.pg_program.specs.Context.{Context, IsShown, IsShownAt, ShowsDeclared}
pub use Rattle.pg_program.specs.Plain.{are_both, are_listed, is_natural, list_exact, list_text, pair_exact, pair_text}
-- combiners, aggregators and masters, with their laws
pub use Rattle.pg_model.specs.Aggregators.{greatest_number, least_message, least_number}
pub use Rattle.pg_model.specs.Folds.{IsCommutativeMonoid}
pub use Rattle.pg_global.specs.AnyAggregator.{initial_of, operation_of}
pub use Rattle.pg_global.specs.Combiner.{IsLawful, combining_of, greatest_message, message_sum}
pub use Rattle.pg_global.specs.Master.{Master, MasterView, decided, is_registered, job_of, leaves_all}
pub use Rattle.pg_global.specs.Registry.{Registered, first_refusal, refusal_of}
pub use Rattle.pg_global.specs.declared.aggregator.AnyAggregator.{AnyAggregator}
pub use Rattle.pg_global.specs.declared.aggregator.AnyAggregator.TheVariants.{BitAnd, BitOr, LongMax, LongMin, LongSum}
pub use Rattle.pg_global.specs.declared.combiner.AnyCombiner.{AnyCombiner}
pub use Rattle.pg_global.specs.declared.combiner.AnyCombiner.TheVariants.{Max, Min, NoCombiner, Sum}
pub use Rattle.pg_global.specs.declared.registry.RegisterFault.{RegisterFault}
pub use Rattle.pg_global.specs.declared.registry.Registration.{Registration}
pub use Rattle.pregeld_programs.specs.Ready.{master_of, program_of}
-- the plain runner and the service
pub use Rattle.pg_scratch.specs.declared.runner.RunFault.{RunFault}
pub use Rattle.pg_service.specs.Handed.{Answered, Beginning, Book, HaveRisingIds, aggregate_of, last_of, value_of}
pub use Rattle.pg_service.specs.Handed.{IsCounted, Limits, Loss, mem_state}
pub use Rattle.pg_service.specs.Handed.{MayRefuse, RefreshFault, is_failure, refusal_number}
pub use Rattle.pg_service.specs.Job.{CanRun, ServiceJob, job_of_service, registered_by}
pub use Rattle.pg_service.specs.Led.{EditLeadsOn, Follows, Led, LeadsOn, LooksAtAnswers}
pub use Rattle.pg_service.specs.Service.{MayReport, RefusesEdition, ServiceState, fresh, next_graph}
pub use Rattle.pg_service.specs.Service.{calls_of, check_of, entry_of, with_entry}
