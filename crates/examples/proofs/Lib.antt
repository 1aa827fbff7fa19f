mod Parts
mod Rising
mod Totals
mod Rows
