-- What the crates above take from the channels' proofs, and nothing else.
--
--   Seat, seat, seats, place-seats, free-seats, seat-at, seats-put, seats-length, place-number,
--   place_unique, vacant-behind, put-there, put-elsewhere, segmentable-place, place-new, place-old, place-not_free, number-seats   places, and what the two ends have alike (Seats)
--   seat-sought, in_place, not_in, in-placed                    places found, and numbers replaced by places (Placing)
--   held_at, orderly-put, filled-room, held_grown, held_else, orderly_joined, orderly_emptied   what a place holds (Holding)
--   seated-kept, seated-put                                     the seats (Seating)
--   waits-put, numbers-put, bounded-put                         the bounds (Bounds)
--   channel-put, channel_else, IsSent, sent_is, taken_is, sending_leaves                      AL2 by channel, where it is not refused (Keeping)
--   taken_as_sent                                                 .. and from channel to channel (Theorems)
--   open_exactly, all_open_exactly, full_exactly                    when a channel is open (Found), and when no other is opened (Full)
--   of_channels, of_layers                                      where each call is refused (Applying)
--   start_bounded, calls_keep_bounds                               what every call keeps (Theorems)
--   after_unique, post_unique, send_unique, take_unique             one answer (Theorems)
--
-- Assumes nothing.
pub use Rattle.channels.proofs.Seats.{Seat, seat, seats, place-seats, free-seats, seat-at, seats-put}
pub use Rattle.channels.proofs.Seats.{seats-length, place-number, place_unique, vacant-behind, put-there, put-elsewhere, segmentable-place, place-new, place-old, place-not_free, number-seats}
pub use Rattle.channels.proofs.Placing.{seat-sought, in_place, not_in, in-placed}
pub use Rattle.channels.proofs.Holding.{held_at, orderly-put, filled-room, held_grown, held_else, orderly_joined, orderly_emptied}
pub use Rattle.channels.proofs.Seating.{seated-kept, seated-put}
pub use Rattle.channels.proofs.Bounds.{waits-put, numbers-put, bounded-put}
pub use Rattle.channels.proofs.Keeping.{channel-put, channel_else, IsSent, sent_is, taken_is, sending_leaves}
pub use Rattle.channels.proofs.Found.{open_exactly, all_open_exactly}
pub use Rattle.channels.proofs.Full.{full_exactly}
pub use Rattle.channels.proofs.Applying.{of_channels, of_layers}
pub use Rattle.channels.proofs.Theorems.{start_bounded, calls_keep_bounds, taken_as_sent, after_unique, post_unique, send_unique, take_unique}
