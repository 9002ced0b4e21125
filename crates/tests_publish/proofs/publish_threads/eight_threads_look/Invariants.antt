use Rattle.tests_publish.proofs.publish_threads.eight_threads_look.Given as goal

-- the publisher that was just made
abbrev pub ghosts-eight_readers : goal.ghosts-eight_readers
ghosts-eight_readers g a = record { book = a.publisher.publisher }
