-- Lemmas of bundles, handed on to whoever sends and receives.
pub use Rattle.pg_inbox_bundles.proofs.Bundling.{all_from_lookups, rises-bundle_of, rises-values, value_at-values}
pub use Rattle.pg_inbox_bundles.proofs.Differing.{has_id-append}
pub use Rattle.pg_inbox_bundles.proofs.ToTarget.{envelopes_at-bundle_of, flat_map-of_map}
