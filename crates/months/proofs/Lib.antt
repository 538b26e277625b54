-- Raising: cells of the year and of a month's box. Storing: a box stored in the year's layer. Rolling: a month in a part of the scratch.
-- Classes: the three together. Parts: all cells, by what lies above the box. Years: the layer of the year. Slots: the places of the months' layers. Standing: a chain of months.
-- Planning: one month of a plan. Partway: all of them.
-- Ending: the value of a cell by the cells where its plans end. Bringing: a way taken from the cells of the year. Shifting: the same with longer rows.
-- Covering: the best of all ways is the value. Taking: way after way. Rounds: state after state.
pub mod Raising
pub mod Storing
pub mod Rolling
pub mod Classes
pub mod Parts
pub mod Years
pub mod Slots
pub mod Standing
pub mod Planning
pub mod Partway
pub mod Ending
pub mod Bringing
pub mod Covering
pub mod Taking
pub mod Rounds
pub mod Shifting
