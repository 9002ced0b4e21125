-- What is said of bundles and of what a message list holds, handed on to whoever sends and receives.
pub use Rattle.pg_inbox_bundles.specs.Bundles.{Entry, MessageLists, bundle_of, each_entry, entries_in, entries_of}
pub use Rattle.pg_inbox_bundles.specs.Bundles.{entries_to, envelopes_at, envelopes_in, message_lists_in}
pub use Rattle.pg_inbox_bundles.specs.Changed.{AreChanged, AreSameAt}
pub use Rattle.pg_inbox_bundles.specs.Counting.{messages_where}
pub use Rattle.pg_inbox_bundles.specs.Holding.{HoldAll}
pub use Rattle.pg_inbox_bundles.specs.Outbox.{AreAllOf, Outbox, RiseBySender, as_send, envelopes_to, sends_in, sent_by}
pub use Rattle.pg_inbox_bundles.specs.Outbox.{without_senders}
pub use Rattle.pg_inbox_bundles.specs.Patched.{IsPatched, TellsChanges, is_retracted, staying}
pub use Rattle.pg_inbox_bundles.specs.declared.logged_bundle.LoggedBundle.{LoggedBundle}
pub use Rattle.pg_inbox_messages.specs.declared.message_list.Contents.{Contents}
